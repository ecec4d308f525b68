use Rattle.std.proofs.Common.{◌≡◌, ◌++◌}
use Rattle.tl_coming.specs.Listings.{owned_outside}
use Rattle.tl_coming.proofs.owned.owned_outside.Given as goal

abbrev pub invariant-loop-entry : goal.invariant-loop-entry
invariant-loop-entry l = l.files.items ++ owned_outside l.entry-iterator.rest.now l.names.keys ≡ owned_outside l.db l.names.keys
