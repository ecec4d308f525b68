use Rattle.std.proofs.Common.{◌≡◌, drop}
use Rattle.tl_plan.specs.Removal.{needed_fault}
use Rattle.tl_plan.proofs.removal.refuse_needed.Given as goal

abbrev pub invariant-loop-name : goal.invariant-loop-name
invariant-loop-name l = needed_fault l.db l.names (drop l.name-index l.names) ≡ needed_fault l.db l.names l.names
