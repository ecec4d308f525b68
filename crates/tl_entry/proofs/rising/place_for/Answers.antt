use Rattle.std.proofs.Common.{◌≡◌, ◌<◌, length, arith, ap, ◌∙◌, sym, true, get_or, List}
use Rattle.std.specs.Ordering.{is_lt, is_gt, ordering_reverse}
use Rattle.std.proofs.lemmas.List.{get_or_read}
use Rattle.std.proofs.lemmas.Cmp.{nat_list_cmp_total}
use Rattle.tl_entry.specs.Rising.{comes_before}
use Rattle.tl_entry.proofs.RisingLemmas.{below_all, above_all}
use Rattle.tl_entry.proofs.rising.place_for.Goals as goal

pub loop-low-preserved-in-Less : goal.loop-low-preserved-in-Less
loop-low-preserved-in-Less g c =
    let key = g.T.Keyed.key in
    let items = c.args.items.now in let middle = c.next_try-middle.result in
    let lt : middle < length items = omega arith in
    record {
      in_order = omega arith;
      within = c.loop-low.invariant.within;
      below = λ k d h.
          let at = get_or_read items middle _ lt c.index-items-middle.is d in
          let here : comes_before (key (get_or items middle d)) c.args.wanted.now ≡ true =
          ap (λ x. comes_before (key x) c.args.wanted.now) (sym at) ∙ ap (λ (t : List _). comes_before t c.args.wanted.now) (sym c.key.ensures) ∙ ap is_lt (sym c.cmp.ensures ∙ c.in-Less.is) in
          below_all key c.args.wanted.now items middle d c.requires lt here k (omega arith);
      above = c.loop-low.invariant.above;
    }

pub loop-low-preserved : goal.loop-low-preserved
loop-low-preserved g c =
    let key = g.T.Keyed.key in
    let items = c.args.items.now in let middle = c.next_try-middle.result in
    let lt : middle < length items = omega arith in
    record {
      in_order = omega arith;
      within = omega arith;
      below = c.loop-low.invariant.below;
      above = λ k d le h.
          let at = get_or_read items middle _ lt c.index-items-middle.is d in
          let here : comes_before c.args.wanted.now (key (get_or items middle d)) ≡ true =
          ap is_lt (nat_list_cmp_total.antisymm c.args.wanted.now (key (get_or items middle d)) ∙ ap ordering_reverse (ap (λ x. Rattle.std.specs.Cmp.Lexicographic.slice_cmp Rattle.std.specs.Ordering.nat_cmp (key x) c.args.wanted.now) (sym at) ∙ ap (λ (t : List _). Rattle.std.specs.Cmp.Lexicographic.slice_cmp Rattle.std.specs.Ordering.nat_cmp t c.args.wanted.now) (sym c.key.ensures) ∙ sym c.cmp.ensures ∙ c.in-Greater.is)) in
          above_all key c.args.wanted.now items middle d c.requires lt here k le h;
    }
