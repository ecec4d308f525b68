use Rattle.std.proofs.Common.{◌≡◌, ◌+◌, ◌-◌, ◌/◌, ◌<◌, ℕ, length, arith, ap, ◌∙◌, sym, true, get_or, List}
use Rattle.std.specs.Ordering.{is_lt, ordering_reverse, nat_cmp}
use Rattle.std.specs.Cmp.Lexicographic.{slice_cmp}
use Rattle.std.proofs.lemmas.List.{get_or_read}
use Rattle.std.proofs.lemmas.Cmp.{nat_list_cmp_total}
use Rattle.tl_entry.specs.declared.object.Object.{Object}
use Rattle.tl_entry.specs.Rising.{comes_before}
use Rattle.tl_entry.proofs.RisingLemmas.{below_all, above_all, absent_at}
use Rattle.tl_db.proofs.DbLemmas.{name}
use Rattle.tl_db.proofs.db.place_of.Goals as goal

pub loop-low-preserved-in-Less : goal.loop-low-preserved-in-Less
loop-low-preserved-in-Less c =
    let items = c.args.objects.now in let middle = c.loop-low.low + (c.loop-low.high - c.loop-low.low) / 2 in
    let lt : middle < length items = omega arith in
    record {
      in_order = omega arith;
      within = c.loop-low.invariant.within;
      below = λ k d h.
          let at = get_or_read items middle _ lt c.index-objects-middle.is d in
          let here : comes_before (name (get_or items middle d)) c.args.name.now ≡ true =
          ap (λ (x : Object). comes_before (name x) c.args.name.now) (sym at) ∙ ap (λ (t : List ℕ). comes_before t c.args.name.now) (sym c.key.ensures) ∙ ap is_lt (sym c.cmp.ensures ∙ c.in-Less.is) in
          below_all name c.args.name.now items middle d c.requires lt here k (omega arith);
      above = c.loop-low.invariant.above;
    }

pub loop-low-preserved : goal.loop-low-preserved
loop-low-preserved c =
    let items = c.args.objects.now in let middle = c.loop-low.low + (c.loop-low.high - c.loop-low.low) / 2 in
    let lt : middle < length items = omega arith in
    record {
      in_order = omega arith;
      within = omega arith;
      below = c.loop-low.invariant.below;
      above = λ k d le h.
          let at = get_or_read items middle _ lt c.index-objects-middle.is d in
          let here : comes_before c.args.name.now (name (get_or items middle d)) ≡ true =
          ap is_lt (nat_list_cmp_total.antisymm c.args.name.now (name (get_or items middle d)) ∙ ap ordering_reverse (ap (λ (x : Object). slice_cmp nat_cmp (name x) c.args.name.now) (sym at) ∙ ap (λ (t : List ℕ). slice_cmp nat_cmp t c.args.name.now) (sym c.key.ensures) ∙ sym c.cmp.ensures ∙ c.in-Greater.is)) in
          above_all name c.args.name.now items middle d c.requires lt here k le h;
    }

pub returns : goal.returns
returns c =
    let same : c.loop-low.low ≡ c.loop-low.high = omega arith in
    absent_at name c.args.name.now c.args.objects.now c.loop-low.low (record {
      within = omega arith;
      below = c.loop-low.invariant.below;
      above = λ k d le lt. c.loop-low.invariant.above k d (omega arith) lt;
    })
