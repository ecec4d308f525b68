use Rattle.std.proofs.Common.{◌≡◌}
use Rattle.tl_publish.specs.Owning.{list_owner}
use Rattle.tl_publish.proofs.owning.list_owner.Given as goal

abbrev pub invariant-loop-entry : goal.invariant-loop-entry
invariant-loop-entry l = list_owner l.entry-iterator.rest.now ≡ list_owner l.db
