use Rattle.std.proofs.Common.{◌≡◌}
use Rattle.tl_copying.specs.Demands.{containers_of, with_packages}
use Rattle.tl_copying.proofs.naming.containers_of.Given as goal

abbrev pub invariant-loop-entry : goal.invariant-loop-entry
invariant-loop-entry l = containers_of l.db ≡ with_packages l.db l.entry-iterator.rest.now l.naming
