use Rattle.std.proofs.Common.{◌≡◌}
use Rattle.tl_words.specs.Faults.{forbidden_fault}
use Rattle.tl_words.specs.Inside.{parts_left}
use Rattle.tl_words.proofs.faults.forbidden_fault.Given as goal

abbrev pub invariant-loop-part : goal.invariant-loop-part
invariant-loop-part l = record {
  can : (goal.iterator-loop-part).can_next l.part-iterator;
  ends : (goal.iterator-loop-part).is_finite l.part-iterator;
  same : forbidden_fault l.this (parts_left l.fn.parts) ≡ forbidden_fault l.this (parts_left l.part-iterator);
}
