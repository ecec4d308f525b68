use Rattle.std.proofs.Common.{◌≡◌, ◌++◌}
use Rattle.std.specs.Prelude.{not, filter}
use Rattle.tl_path.specs.Reserved.{is_reserved}
use Rattle.tl_entry.specs.Left.{paths_left}
use Rattle.tl_tree.proofs.leaving.push_paths.Given as goal

abbrev pub invariant-loop-path : goal.invariant-loop-path
invariant-loop-path l = l.out.items ++ filter (λ p. not (is_reserved p)) (paths_left l.path-iterator) ≡ l.initial.out.items ++ filter (λ p. not (is_reserved p)) l.paths
