use Rattle.std.proofs.Common.{◌≡◌, drop}
use Rattle.tl_pin.specs.Candidates.{candidate_of}
use Rattle.tl_pin.proofs.offers.chosen.Given as goal

abbrev pub invariant-loop-pin : goal.invariant-loop-pin
invariant-loop-pin l = candidate_of (drop l.pin-index l.pin-items) l.repos l.name ≡ candidate_of l.pins l.repos l.name
