use Rattle.std.proofs.Common.{◌≡◌, ◌++◌, take}
use Rattle.tl_tree.proofs.leaving.push_each.Given as goal

abbrev pub invariant-loop-path : goal.invariant-loop-path
invariant-loop-path l = l.out.items ≡ l.initial.out.items ++ take l.path-index l.paths
