use Rattle.std.proofs.Common.{List, ℕ, ◌∙◌, ap, drop}
use Rattle.std.specs.List.{flat_map}
use Rattle.tl_plan.specs.Plans.{is_any_touching}
use Rattle.tl_coming.specs.Parts.{files_with}
use Rattle.tl_coming.proofs.cuts.last_touched.Goals as goal

pub returns : goal.returns
returns c db plan are least =
    c.last_of.ensures db plan are least
    ∙ ap (λ (l : List (List ℕ)). is_any_touching l (flat_map (files_with db) (drop least plan))) (c.deref.ensures.value ∙ c.in_ok-paths.ensures)
