use Rattle.std.proofs.Common.{◌≡◌, ◌++◌}
use Rattle.tl_backups.specs.Backing.{open_names}
use Rattle.tl_backups.proofs.backing.push_installed.Given as goal

abbrev pub invariant-loop-entry : goal.invariant-loop-entry
invariant-loop-entry l = l.names.items ++ open_names l.entry-iterator.rest.now ≡ l.initial.names.items ++ open_names l.db
