use Rattle.std.proofs.Common.{◌≡◌, drop}
use Rattle.tl_pin.specs.Candidates.{entry_under}
use Rattle.tl_pin.proofs.offers.entry_under.Given as goal

abbrev pub invariant-loop-at : goal.invariant-loop-at
invariant-loop-at l = entry_under l.at (drop l.at l.repos) l.tag l.name ≡ entry_under 0 l.repos l.tag l.name
