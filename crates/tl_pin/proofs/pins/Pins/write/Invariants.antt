use Rattle.tl_pin.proofs.WriteLemmas.{WrittenSoFar}
use Rattle.tl_pin.proofs.pins.Pins.write.Given as goal

abbrev pub invariant-loop-pin : goal.invariant-loop-pin
invariant-loop-pin l = WrittenSoFar l.pin-items l.out.items l.pin-index
