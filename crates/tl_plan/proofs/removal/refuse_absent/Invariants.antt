use Rattle.std.proofs.Common.{◌≡◌, drop}
use Rattle.tl_plan.specs.Removal.{absent_fault}
use Rattle.tl_plan.proofs.removal.refuse_absent.Given as goal

abbrev pub invariant-loop-name : goal.invariant-loop-name
invariant-loop-name l = absent_fault l.db (drop l.name-index l.names) ≡ absent_fault l.db l.names
