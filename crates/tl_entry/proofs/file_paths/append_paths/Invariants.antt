use Rattle.std.proofs.Common.{◌≡◌, ◌++◌}
use Rattle.tl_entry.specs.Left.{paths_left}
use Rattle.tl_entry.proofs.file_paths.append_paths.Given as goal

abbrev pub invariant-loop-path : goal.invariant-loop-path
invariant-loop-path l = l.out.items ++ paths_left l.path-iterator ≡ l.fn.out.items ++ l.paths
