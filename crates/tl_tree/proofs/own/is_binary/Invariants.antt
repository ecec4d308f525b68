use Rattle.std.proofs.Common.{◌≡◌, false, take}
use Rattle.std.specs.List.{flat_map}
use Rattle.tl_entry.specs.Rising.{has_key}
use Rattle.tl_tree.specs.Changes.{bin_paths}
use Rattle.tl_tree.proofs.own.is_binary.Given as goal

abbrev pub invariant-loop-bin : goal.invariant-loop-bin
invariant-loop-bin l = has_key (λ p. p) l.path (flat_map bin_paths (take l.bin-index l.bins)) ≡ false
