use Rattle.std.proofs.Common.{◌≡◌}
use Rattle.tl_words.specs.Settings.{has_option}
use Rattle.tl_words.specs.Inside.{parts_left}
use Rattle.tl_words.proofs.faults.has_option.Given as goal

abbrev pub invariant-loop-part : goal.invariant-loop-part
invariant-loop-part l = record {
  can : (goal.iterator-loop-part).can_next l.part-iterator;
  ends : (goal.iterator-loop-part).is_finite l.part-iterator;
  same : has_option l.this (parts_left l.fn.parts) ≡ has_option l.this (parts_left l.part-iterator);
}
