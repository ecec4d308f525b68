use Rattle.std.proofs.Common.{◌≡◌}
use Rattle.tl_db.specs.Entries.{entry_of}
use Rattle.tl_db.specs.Options.{installation}
use Rattle.tl_depend.proofs.needing.installation.Given as goal

abbrev pub invariant-loop-entry : goal.invariant-loop-entry
invariant-loop-entry l = entry_of installation l.entry-iterator.rest.now ≡ entry_of installation l.db
