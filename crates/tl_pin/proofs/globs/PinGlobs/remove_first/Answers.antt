use Rattle.std.proofs.Common.{ℕ, ◌<◌, List, length, sym, subst, arith}
use Rattle.std.specs.Str.{bytes_eq}
use Rattle.tl_pin.proofs.ChangeLemmas.{first_at, without_first-at, without_first-none, globs_left}
use Rattle.tl_pin.proofs.globs.PinGlobs.remove_first.Goals as goal

pub invariant_of-self : goal.invariant_of-self
invariant_of-self c =
    globs_left c.self.inside.items.items _ _ c.remove.ensures.items (omega (arith, c.remove.ensures.len)) (subst (λ (gs : List (List ℕ)). 1 < length gs) (sym c.self.view_is) c.requires) c.self.invariant

pub returns-in-Some : goal.returns-in-Some
returns-in-Some c =
    rw (c.remove.ensures.items, ← c.self.view_is)
    (without_first-at c.args.glob.now c.self.inside.items.items c.in-Some.at c.remove.result (first_at (λ g. bytes_eq g c.args.glob.now) c.self.inside.items.items _ _ (rw c.as_slice.ensures.value at c.in-Some.ensures) c.remove.ensures.value))

pub returns-in_default : goal.returns-in_default
returns-in_default c = rw (← c.self.view_is) (without_first-none c.args.glob.now c.self.inside.items.items (rw c.as_slice.ensures.value at c.in_default.ensures))
