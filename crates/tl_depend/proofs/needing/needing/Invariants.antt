use Rattle.std.proofs.Common.{◌≡◌}
use Rattle.std.specs.Prelude.{find}
use Rattle.tl_model.specs.Words.{fields}
use Rattle.tl_depend.specs.Needed.{needs_name}
use Rattle.tl_depend.proofs.needing.needing.Given as goal

abbrev pub invariant-loop-entry : goal.invariant-loop-entry
invariant-loop-entry l =
    find (needs_name (fields l.platforms) l.name l.leaving.keys) l.entry-iterator.rest.now ≡ find (needs_name (fields l.platforms) l.name l.leaving.keys) l.db
