use Rattle.tl_index.specs.Places.{AreSet}
use Rattle.tl_index.proofs.places.Places.set_all.Given as goal

abbrev pub invariant-loop-place : goal.invariant-loop-place
invariant-loop-place l = AreSet l.fn.low l.place l.positive l.fn.self l.self
