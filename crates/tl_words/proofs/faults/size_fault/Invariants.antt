use Rattle.std.proofs.Common.{◌≡◌, drop}
use Rattle.tl_words.specs.Faults.{size_fault}
use Rattle.tl_action.specs.Texts.{texts}
use Rattle.tl_words.proofs.faults.size_fault.Given as goal

abbrev pub invariant-loop-at : goal.invariant-loop-at
invariant-loop-at l = size_fault 0 (texts l.words) ≡ size_fault l.at (drop l.at (texts l.words))
