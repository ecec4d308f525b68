use Rattle.std.proofs.Common.{◌≡◌, ℕ, ◌<◌, List, [], length, get_or, true, ap, sym, ◌∙◌, arith}
use Rattle.std.specs.Ordering.{nat_cmp, is_lt, ordering_reverse}
use Rattle.std.specs.Cmp.Lexicographic.{slice_cmp}
use Rattle.std.proofs.lemmas.List.{get_or_default}
use Rattle.std.proofs.lemmas.Cmp.{nat_list_cmp_total}
use Rattle.tl_entry.specs.Rising.{comes_before}
use Rattle.tl_entry.proofs.RisingLemmas.{below_all, above_all}
use Rattle.tl_entry.proofs.paths.Paths.place_for.Goals as goal

pub loop-low-preserved-in-Less : goal.loop-low-preserved-in-Less
loop-low-preserved-in-Less c =
    let paths = c.args.self.now in let wanted = c.args.path.now in let middle = c.next_try-middle.result in
    let lt : middle < length paths = omega arith in
    record {
      in_order = omega arith;
      within = c.loop-low.invariant.within;
      below = λ k d h.
          let read : get_or paths middle d ≡ c.bytes.result.now = get_or_default paths middle d [] lt ∙ sym c.at.ensures.path ∙ sym c.bytes.ensures.bytes in
          let here : comes_before (get_or paths middle d) wanted ≡ true = ap (λ (t : List ℕ). comes_before t wanted) read ∙ ap is_lt (sym c.cmp.ensures ∙ c.in-Less.is) in
          below_all (λ (p : List ℕ). p) wanted paths middle d c.len-high.ensures.rising lt here k (omega arith);
      above = c.loop-low.invariant.above;
    }

pub loop-low-preserved : goal.loop-low-preserved
loop-low-preserved c =
    let paths = c.args.self.now in let wanted = c.args.path.now in let middle = c.next_try-middle.result in
    let lt : middle < length paths = omega arith in
    record {
      in_order = omega arith;
      within = omega arith;
      below = c.loop-low.invariant.below;
      above = λ k d le h.
          let read : get_or paths middle d ≡ c.bytes.result.now = get_or_default paths middle d [] lt ∙ sym c.at.ensures.path ∙ sym c.bytes.ensures.bytes in
          let here : comes_before wanted (get_or paths middle d) ≡ true =
          ap is_lt (nat_list_cmp_total.antisymm wanted (get_or paths middle d) ∙ ap ordering_reverse (ap (λ (t : List ℕ). slice_cmp nat_cmp t wanted) read ∙ sym c.cmp.ensures ∙ c.in-Greater.is)) in
          above_all (λ (p : List ℕ). p) wanted paths middle d c.len-high.ensures.rising lt here k le h;
    }
