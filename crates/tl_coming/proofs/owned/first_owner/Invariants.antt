use Rattle.std.proofs.Common.{◌≡◌}
use Rattle.std.specs.Prelude.{find, option_map}
use Rattle.tl_tree.specs.Owners.{name_of}
use Rattle.tl_coming.specs.Refused.{owns_outside}
use Rattle.tl_coming.proofs.owned.first_owner.Given as goal

abbrev pub invariant-loop-entry : goal.invariant-loop-entry
invariant-loop-entry l = option_map name_of (find (owns_outside l.names.keys l.path) l.entry-iterator.rest.now) ≡ option_map name_of (find (owns_outside l.names.keys l.path) l.db)
