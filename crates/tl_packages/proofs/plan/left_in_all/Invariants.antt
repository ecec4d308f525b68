use Rattle.std.proofs.Common.{◌≡◌, take}
use Rattle.tl_packages.specs.Remove.{left_in_all}
use Rattle.tl_packages.proofs.plan.left_in_all.Given as goal

abbrev pub invariant-loop-planned : goal.invariant-loop-planned
invariant-loop-planned l = l.names.items ≡ left_in_all (take l.planned-index l.steps)
