use Rattle.std.proofs.Common.{◌≡◌, ◌++◌}
use Rattle.tl_report.specs.Executes.{execute_lines}
use Rattle.tl_report.proofs.executes.executes.Given as goal

abbrev pub invariant-loop-entry : goal.invariant-loop-entry
invariant-loop-entry l = l.lines ++ execute_lines l.entry-iterator.rest.now ≡ execute_lines l.db
