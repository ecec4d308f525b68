use Rattle.std.proofs.Common.{◌≡◌, ◌++◌, map, take}
use Rattle.std.specs.List.{flat_map}
use Rattle.tl_entry.specs.declared.object.BinFiles.{BinFiles}
use Rattle.tl_claims.specs.Claims.{claim}
use Rattle.tl_claims.proofs.claims.push_binaries.Given as goal

abbrev pub invariant-loop-bin : goal.invariant-loop-bin
invariant-loop-bin l = l.claims.items ≡ l.fn.claims.items ++ map (claim l.number l.by) (flat_map (λ (bin : BinFiles). bin.paths) (take l.bin-index l.bins))
