use Rattle.std.proofs.Common.{◌≡◌, ◌++◌, take}
use Rattle.std.specs.List.{flat_map}
use Rattle.tl_entry.specs.declared.object.BinFiles.{BinFiles}
use Rattle.tl_touch.proofs.listing.push_bin_paths.Given as goal

abbrev pub invariant-loop-bin : goal.invariant-loop-bin
invariant-loop-bin l = l.listed.items ≡ l.fn.listed.items ++ flat_map (λ (bin : BinFiles). bin.paths) (take l.bin-index l.bins)
