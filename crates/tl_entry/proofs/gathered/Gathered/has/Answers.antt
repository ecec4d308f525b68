use Rattle.std.proofs.Common.{◌≡◌, List, true, ap, sym, subst, ◌∙◌}
use Rattle.tl_entry.specs.Rising.{has_key, IsPlace}
use Rattle.tl_entry.proofs.RisingLemmas.{absent_at}
use Rattle.tl_entry.proofs.GatherLemmas.{among_sorted, among_late}
use Rattle.tl_entry.proofs.gathered.Gathered.has.Goals as goal

pub returns-in-Some : goal.returns-in-Some
returns-in-Some g c =
    let key = g.T.Keyed.key in
    let place : IsPlace key c.args.key.now c.self.inside.sorted.items c.in-Some.field-0 =
    subst (λ (xs : List _). IsPlace key c.args.key.now xs c.in-Some.field-0) c.as_slice.ensures.value c.in-Some.ensures in
    rw (← c.self.view_is) (c.has.ensures ∙ sym (among_late key c.args.key.now c.self.inside.late c.self.inside.sorted.items (absent_at key c.args.key.now c.self.inside.sorted.items c.in-Some.field-0 place)))

pub returns-in-None : goal.returns-in-None
returns-in-None g c =
    let key = g.T.Keyed.key in
    let there : has_key key c.args.key.now c.self.inside.sorted.items ≡ true =
    ap (λ (xs : List _). has_key key c.args.key.now xs) (sym c.as_slice.ensures.value) ∙ c.in-None.ensures in
    rw (← c.self.view_is) (sym (among_sorted key c.args.key.now c.self.inside.late c.self.inside.sorted.items there))
