use Rattle.std.proofs.Common.{◌≡◌, drop}
use Rattle.tl_plan.specs.Removal.{protected_fault}
use Rattle.tl_plan.proofs.removal.refuse_protected.Given as goal

abbrev pub invariant-loop-name : goal.invariant-loop-name
invariant-loop-name l = protected_fault (drop l.name-index l.names) ≡ protected_fault l.names
