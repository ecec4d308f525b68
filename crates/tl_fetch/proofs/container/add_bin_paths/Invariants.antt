use Rattle.std.proofs.Common.{◌≡◌, ◌++◌, take}
use Rattle.std.specs.List.{flat_map}
use Rattle.tl_entry.specs.declared.object.BinFiles.{BinFiles}
use Rattle.tl_fetch.proofs.container.add_bin_paths.Given as goal

abbrev pub invariant-loop-bin : goal.invariant-loop-bin
invariant-loop-bin l = l.out.items ≡ l.fn.out.items ++ flat_map (λ (bin : BinFiles). bin.paths) (take l.bin-index l.bins)
