use Rattle.std.proofs.Common.{◌≡◌, ℕ, List, Bor, map, bytes_eq}
use Rattle.std.specs.List.{list_any}
use Rattle.std.specs.BTreeSet.{contains}
use Rattle.std.specs.Cmp.Lexicographic.{slice_cmp}
use Rattle.std.specs.Ordering.{nat_cmp}
use Rattle.tl_words.specs.Commands.{distinct, distinct_after}
use Rattle.tl_words.specs.Inside.{words_left}
use Rattle.tl_words.proofs.values.distinct_words.Given as goal

abbrev pub invariant-loop-operand : goal.invariant-loop-operand
invariant-loop-operand l = record {
  can : (goal.iterator-loop-operand).can_next l.operand-iterator;
  ends : (goal.iterator-loop-operand).is_finite l.operand-iterator;
  same : distinct (words_left l.fn.operands) ≡ distinct_after (map (λ word. word.now) l.words.items) (words_left l.operand-iterator);
  seen : (q : Bor (List ℕ)) → contains (λ x y. slice_cmp nat_cmp x.now y.now) l.seen q ≡ list_any (bytes_eq q.now) (map (λ word. word.now) l.words.items);
}
