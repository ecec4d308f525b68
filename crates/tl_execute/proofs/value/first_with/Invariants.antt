use Rattle.std.proofs.Common.{◌≡◌, drop}
use Rattle.std.specs.List.{find}
use Rattle.tl_execute.specs.Values.{has_key}
use Rattle.tl_execute.proofs.Finds.{texts}
use Rattle.tl_execute.proofs.value.first_with.Given as goal

abbrev pub invariant-loop-word : goal.invariant-loop-word
invariant-loop-word l = find (has_key l.key) (texts (drop l.word-index l.words)) ≡ find (has_key l.key) (texts l.words)
