use Rattle.std.proofs.Common.{◌≡◌, List, ℕ, true, refl, ap, sym, ◌∙◌, arith}
use Rattle.tl_entry.specs.Rising.{has_key}
use Rattle.tl_entry.proofs.GatherLemmas.{among_sorted, place_at, after_last, after_late}
use Rattle.tl_entry.proofs.gathered.Gathered.add.Goals as goal

pub returns-in_default-clause-ok : goal.returns-in_default-clause-ok
returns-in_default-clause-ok g c =
    let key = g.T.Keyed.key in
    let there : has_key key (key c.args.item) c.self.inside.sorted.items ≡ true =
    ap (λ (xs : List _). has_key key (key c.args.item) xs) (sym c.as_slice.ensures.value) ∙ ap (λ (w : List ℕ). has_key key w c.as_slice.result.now) (sym c.key.ensures) ∙ c.in_default.ensures in
    (rw (← c.self.view_is) (among_sorted key (key c.args.item) c.self.inside.late c.self.inside.sorted.items there), refl)

pub invariant_of-self : goal.invariant_of-self
invariant_of-self g c =
    let key = g.T.Keyed.key in
    let place = place_at key c.args.item c.key.result.now c.as_slice.result.now c.self.inside.sorted.items c.in-Some.at c.key.ensures c.as_slice.ensures.value c.in-Some.ensures in
    (after_late key c.add.result c.args.item c.self.inside.sorted.items c.self.inside.late c.add.new.self c.in-Some.at c.self.invariant place (omega arith) c.add.ensures.ok c.add.ensures.err).0

pub returns-then-at-len-clause-ok : goal.returns-then-at-len-clause-ok
returns-then-at-len-clause-ok g c =
    let key = g.T.Keyed.key in
    let place = place_at key c.args.item c.key.result.now c.as_slice.result.now c.self.inside.sorted.items c.in-Some.at c.key.ensures c.as_slice.ensures.value c.in-Some.ensures in
    rw (← c.self.view_is)
    (after_late key c.add.result c.args.item c.self.inside.sorted.items c.self.inside.late c.add.new.self c.in-Some.at c.self.invariant place (omega arith) c.add.ensures.ok c.add.ensures.err).1.0

pub returns-then-at-len-clause-err : goal.returns-then-at-len-clause-err
returns-then-at-len-clause-err g c =
    let key = g.T.Keyed.key in
    let place = place_at key c.args.item c.key.result.now c.as_slice.result.now c.self.inside.sorted.items c.in-Some.at c.key.ensures c.as_slice.ensures.value c.in-Some.ensures in
    rw (← c.self.view_is)
    (after_late key c.add.result c.args.item c.self.inside.sorted.items c.self.inside.late c.add.new.self c.in-Some.at c.self.invariant place (omega arith) c.add.ensures.ok c.add.ensures.err).1.1

pub invariant_of-self-2 : goal.invariant_of-self-2
invariant_of-self-2 g c =
    let key = g.T.Keyed.key in
    let place = place_at key c.args.item c.key.result.now c.as_slice.result.now c.self.inside.sorted.items c.in-Some.at c.key.ensures c.as_slice.ensures.value c.in-Some.ensures in
    let p = after_last key c.args.item c.self.inside.sorted.items c.self.inside.late c.push.new.self.items c.in-Some.at c.self.invariant place (omega (arith, place.within)) c.in_ok-push.ensures.items in
    p.gathered

pub returns-clause-ok : goal.returns-clause-ok
returns-clause-ok g c =
    let key = g.T.Keyed.key in
    let place = place_at key c.args.item c.key.result.now c.as_slice.result.now c.self.inside.sorted.items c.in-Some.at c.key.ensures c.as_slice.ensures.value c.in-Some.ensures in
    let p = after_last key c.args.item c.self.inside.sorted.items c.self.inside.late c.push.new.self.items c.in-Some.at c.self.invariant place (omega (arith, place.within)) c.in_ok-push.ensures.items in
    rw (← c.self.view_is) (p.absent, p.same)
