use Rattle.std.proofs.Common.{◌≡◌, take}
use Rattle.tl_install.specs.Left.{left_in}
use Rattle.tl_install.proofs.left.left_in.Given as goal

abbrev pub invariant-loop-part : goal.invariant-loop-part
invariant-loop-part l = l.names.items ≡ left_in l.repos (take l.part-index l.step)
