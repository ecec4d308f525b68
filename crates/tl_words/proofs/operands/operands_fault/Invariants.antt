use Rattle.std.proofs.Common.{◌≡◌}
use Rattle.tl_words.specs.Operands.{operands_fault}
use Rattle.tl_words.specs.Inside.{plains_left}
use Rattle.tl_words.proofs.operands.operands_fault.Given as goal

abbrev pub invariant-loop-operand : goal.invariant-loop-operand
invariant-loop-operand l = record {
  can : (goal.iterator-loop-operand).can_next l.operand-iterator;
  ends : (goal.iterator-loop-operand).is_finite l.operand-iterator;
  same : operands_fault l.fn.start l.end (plains_left l.fn.operands) ≡ operands_fault l.expected l.end (plains_left l.operand-iterator);
}
