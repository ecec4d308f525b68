use Rattle.std.proofs.Common.{◌≡◌, take}
use Rattle.tl_packages.specs.Remove.{parts_of}
use Rattle.tl_packages.proofs.plan.parts_of.Given as goal

abbrev pub invariant-loop-part : goal.invariant-loop-part
invariant-loop-part l = l.parts.items ≡ parts_of (take l.part-index l.step)
