use Rattle.std.proofs.Common.{◌≡◌, drop}
use Rattle.tl_coming.specs.Refused.{execute_fault_from, bad_execute}
use Rattle.tl_coming.proofs.entries.refuse_executes_of.Given as goal

abbrev pub invariant-loop-before : goal.invariant-loop-before
invariant-loop-before l = execute_fault_from l.entry.name l.before (drop l.before l.entry.executes) ≡ bad_execute l.entry
