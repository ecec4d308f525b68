use Rattle.std.proofs.Common.{◌≡◌, false, take}
use Rattle.std.specs.List.{flat_map, list_any}
use Rattle.tl_tree.specs.Changes.{bin_paths}
use Rattle.tl_publish.specs.Owning.{claims_list}
use Rattle.tl_publish.proofs.owning.have_binary_in_way.Given as goal

abbrev pub invariant-loop-bin : goal.invariant-loop-bin
invariant-loop-bin l = list_any claims_list (flat_map bin_paths (take l.bin-index l.bins)) ≡ false
