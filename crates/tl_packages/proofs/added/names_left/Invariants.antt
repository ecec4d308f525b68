use Rattle.std.proofs.Common.{◌≡◌, take}
use Rattle.tl_packages.specs.Remove.{left_in}
use Rattle.tl_packages.proofs.added.names_left.Given as goal

abbrev pub invariant-loop-part : goal.invariant-loop-part
invariant-loop-part l = l.names.items ≡ left_in (take l.part-index l.step)
