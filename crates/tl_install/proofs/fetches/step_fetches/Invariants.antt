use Rattle.std.proofs.Common.{◌≡◌, map, take}
use Rattle.tl_fill.specs.Wanted.{wanted_of}
use Rattle.tl_install.specs.Fetched.{wanted_in}
use Rattle.tl_install.proofs.fetches.step_fetches.Given as goal

abbrev pub invariant-loop-part : goal.invariant-loop-part
invariant-loop-part l = map wanted_of l.fetches.items ≡ wanted_in l.repos (take l.part-index l.step)
