use Rattle.std.proofs.Common.{◌≡◌, ◌++◌}
use Rattle.std.specs.List.{flat_map}
use Rattle.tl_tree.specs.Changes.{own}
use Rattle.tl_coming.proofs.owned.all_owned.Given as goal

abbrev pub invariant-loop-entry : goal.invariant-loop-entry
invariant-loop-entry l = l.files.items ++ flat_map own l.entry-iterator.rest.now ≡ flat_map own l.db
