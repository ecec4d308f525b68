use Rattle.tl_pin.proofs.ReadLemmas.{ReadSoFar}
use Rattle.tl_pin.proofs.pins.Pins.parse.Given as goal

abbrev pub invariant-loop-before : goal.invariant-loop-before
invariant-loop-before l = ReadSoFar l.text l.pins.items l.before
