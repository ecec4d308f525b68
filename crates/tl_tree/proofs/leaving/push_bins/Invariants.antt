use Rattle.std.proofs.Common.{◌≡◌, ◌++◌, take}
use Rattle.std.specs.Prelude.{not, filter}
use Rattle.std.specs.List.{flat_map}
use Rattle.tl_path.specs.Reserved.{is_reserved}
use Rattle.tl_tree.specs.Changes.{bin_paths}
use Rattle.tl_tree.proofs.leaving.push_bins.Given as goal

abbrev pub invariant-loop-bin : goal.invariant-loop-bin
invariant-loop-bin l = l.out.items ≡ l.initial.out.items ++ filter (λ p. not (is_reserved p)) (flat_map bin_paths (take l.bin-index l.bins))
