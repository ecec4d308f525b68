use Rattle.std.proofs.Common.{◌≡◌, ◌++◌, take}
use Rattle.tl_depend.specs.Order.{of_rank}
use Rattle.tl_depend.proofs.ordering.push_rank.Given as goal

abbrev pub invariant-loop-name : goal.invariant-loop-name
invariant-loop-name l = l.ordered.items ≡ l.initial.ordered.items ++ of_rank l.db l.rank (take l.name-index l.names)
