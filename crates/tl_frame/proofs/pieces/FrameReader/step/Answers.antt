use Rattle.std.proofs.Common.{◌≡◌, List, [], ℕ, Option, sym, subst}
use Rattle.tl_frame.specs.States.{IsKept, IsInForm}
use Rattle.tl_frame.proofs.pieces.FrameReader.step.Goals as goal

pub invariant_of-self-in-None : goal.invariant_of-self-in-None
invariant_of-self-in-None c =
    let s = c.self.inside in
    let none : s.kept.items ≡ [] = subst (λ (o : Option ℕ). IsKept o s.kept.items) (sym c.in-None.ensures) c.self.invariant.kept_less in
    subst (λ (kept : List ℕ). IsInForm c.in_ok-waiting-in-None.waiting kept s.last.items) (sym none) (c.in_ok-waiting-in-None.ensures.takes s.last.items).moves.form
