use Rattle.std.proofs.Common.{ℕ, List, sym, subst, ◌∙◌}
use Rattle.tl_entry.specs.Rising.{IsPlace}
use Rattle.tl_entry.proofs.RisingLemmas.{absent_at}
use Rattle.tl_touch.proofs.set.PathSet.has.Goals as goal

pub returns-in-Some : goal.returns-in-Some
returns-in-Some c =
    sym (absent_at (λ (p : List ℕ). p) c.args.path.now c.args.self.now c.in-Some.field-0
    (subst (λ (ps : List (List ℕ)). IsPlace (λ (p : List ℕ). p) c.args.path.now ps c.in-Some.field-0) (c.as_slice.ensures.value ∙ c.self.view_is) c.in-Some.ensures))
