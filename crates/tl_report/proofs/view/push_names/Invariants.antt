use Rattle.std.proofs.Common.{◌≡◌, ◌++◌, map}
use Rattle.tl_report.specs.View.{entry_names}
use Rattle.tl_report.proofs.view.push_names.Given as goal

abbrev pub invariant-loop-entry : goal.invariant-loop-entry
invariant-loop-entry l = map (λ n. n.now) l.names.items ++ entry_names l.entry-iterator.rest.now ≡ map (λ n. n.now) l.initial.names.items ++ entry_names l.db
