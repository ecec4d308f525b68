use Rattle.std.proofs.Common.{◌≡◌, ◌++◌, map, take}
use Rattle.tl_master.specs.Listing.{gone}
use Rattle.tl_master.proofs.listing.push_gone.Given as goal

abbrev pub invariant-loop-marked : goal.invariant-loop-marked
invariant-loop-marked l = l.all.items ≡ l.fn.all.items ++ map gone (take l.marked-index l.marks)
