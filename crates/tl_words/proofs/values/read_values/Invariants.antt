use Rattle.std.proofs.Common.{◌≡◌, ◌++◌}
use Rattle.tl_action.specs.Texts.{texts}
use Rattle.tl_words.specs.Inside.{words_left}
use Rattle.tl_words.proofs.values.read_values.Given as goal

abbrev pub invariant-loop-operand : goal.invariant-loop-operand
invariant-loop-operand l = record {
  can : (goal.iterator-loop-operand).can_next l.operand-iterator;
  ends : (goal.iterator-loop-operand).is_finite l.operand-iterator;
  same : words_left l.fn.operands ≡ texts l.values.items ++ words_left l.operand-iterator;
}
