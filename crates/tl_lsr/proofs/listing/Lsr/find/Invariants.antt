use Rattle.std.proofs.Common.{◌≡◌, take}
use Rattle.tl_lsr.specs.Reading.{paths_named}
use Rattle.tl_lsr.proofs.listing.Lsr.find.Given as goal

abbrev pub invariant-loop-path : goal.invariant-loop-path
invariant-loop-path l = l.found.items ≡ paths_named l.name (take l.path-index l.self)
