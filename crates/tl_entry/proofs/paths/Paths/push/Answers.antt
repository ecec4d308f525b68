use Rattle.std.proofs.Common.{List, ℕ, length, ap, sym, subst, ◌++◌, ◌∷◌, [], ◌∙◌, arith}
use Rattle.tl_entry.specs.Rising.{IsPlace}
use Rattle.tl_entry.specs.declared.paths.Place.{Place}
use Rattle.tl_entry.proofs.TableLemmas.{Pushed, pushed}
use Rattle.tl_entry.proofs.paths.Paths.push.Goals as goal

abbrev last_of : goal.In_ok-push → Place
last_of c = record { start = c.len-start.result; end = c.len-end.result }

left : (c : goal.In_ok-push) → Pushed c.self.inside.text.items c.extend_from_slice.new.self.items c.args.path c.self.inside.places.items c.push.new.self.items
left c =
    pushed c.self.inside.text.items c.extend_from_slice.new.self.items c.args.path c.self.inside.places.items c.push.new.self.items (last_of c)
    (c.in_ok-extend_from_slice.ensures.items ∙ ap (λ (t : List ℕ). c.self.inside.text.items ++ t) c.bytes.ensures.bytes)
    (c.in_ok-push.ensures.items ∙ ap (λ (ps : List Place). ps ++ last_of c ∷ []) c.reserve.ensures.items)
    (omega arith) (omega arith) c.self.invariant c.bytes.ensures.path
    (subst (λ (ts : List (List ℕ)). IsPlace (λ (p : List ℕ). p) c.args.path ts (length ts)) (sym c.self.view_is) c.requires)

pub invariant_of-self-2 : goal.invariant_of-self-2
invariant_of-self-2 c = (left c).table

pub returns-clause-ok : goal.returns-clause-ok
returns-clause-ok c = rw (← c.self.view_is) (left c).same
