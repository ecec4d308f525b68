use Rattle.std.proofs.Common.{◌≡◌, ◌++◌}
use Rattle.tl_entry.specs.Left.{paths_left}
use Rattle.tl_fetch.proofs.container.add_paths.Given as goal

abbrev pub invariant-loop-path : goal.invariant-loop-path
invariant-loop-path l = l.out.items ++ paths_left l.path-iterator ≡ l.fn.out.items ++ l.paths
