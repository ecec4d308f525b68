use Rattle.std.proofs.Common.{◌≡◌, ℕ, List, take, drop}
use Rattle.std.specs.Prelude.{nat_lt}
use Rattle.std.specs.List.{flat_map}
use Rattle.tl_entry.specs.declared.object.Object.{Object}
use Rattle.tl_plan.specs.Plans.{is_any_touching}
use Rattle.tl_coming.specs.Lasts.{AreLast}
use Rattle.tl_coming.specs.Parts.{files_with}
use Rattle.tl_coming.specs.declared.part.PlanPart.{PlanPart}
use Rattle.tl_coming.proofs.cuts.last_of.Given as goal

abbrev pub invariant-loop-path : goal.invariant-loop-path
invariant-loop-path l = (db : List Object) (plan : List PlanPart) → AreLast db plan l.lasts → (least : ℕ)
    → nat_lt least l.last ≡ is_any_touching (take l.path-index l.paths) (flat_map (files_with db) (drop least plan))
