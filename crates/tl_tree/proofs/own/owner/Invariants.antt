use Rattle.std.proofs.Common.{◌≡◌}
use Rattle.tl_tree.specs.Owners.{owner_of}
use Rattle.tl_tree.proofs.own.owner.Given as goal

abbrev pub invariant-loop-entry : goal.invariant-loop-entry
invariant-loop-entry l = owner_of l.path l.entry-iterator.rest.now ≡ owner_of l.path l.db
