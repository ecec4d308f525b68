use Rattle.std.proofs.Common.{◌≡◌, ◌++◌}
use Rattle.tl_entry.specs.Left.{paths_left}
use Rattle.tl_touch.proofs.listing.push_paths.Given as goal

abbrev pub invariant-loop-path : goal.invariant-loop-path
invariant-loop-path l = l.listed.items ++ paths_left l.path-iterator ≡ l.fn.listed.items ++ l.paths
