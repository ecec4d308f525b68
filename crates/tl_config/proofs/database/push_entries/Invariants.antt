use Rattle.std.proofs.Common.{◌≡◌, ◌++◌}
use Rattle.std.specs.List.{flat_map}
use Rattle.tl_config.specs.Files.{lines_of}
use Rattle.tl_config.specs.Databases.{executes_of}
use Rattle.tl_config.proofs.database.push_entries.Given as goal

abbrev pub invariant-loop-entry : goal.invariant-loop-entry
invariant-loop-entry l =
    l.out.items ++ flat_map (lines_of l.file) (executes_of l.entry-iterator.rest.now) ≡ l.initial.out.items ++ flat_map (lines_of l.file) (executes_of l.db)
