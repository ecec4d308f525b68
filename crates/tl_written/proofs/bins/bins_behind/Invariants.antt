use Rattle.std.proofs.Common.{[], ◌∷◌, length}
use Rattle.std.specs.Prelude.{codes}
use Rattle.tl_entry.specs.declared.object.BinFiles.{BinFiles}
use Rattle.tl_object.specs.Formed.{IsFormedBin}
use Rattle.tl_object.specs.Writing.{bin_lines}
use Rattle.tl_written.specs.Rises.{IsFront}
use Rattle.tl_written.proofs.LeftLemmas.{KeepsRising}
use Rattle.tl_written.proofs.bins.bins_behind.Given as goal

abbrev pub invariant-loop-platform : goal.invariant-loop-platform
invariant-loop-platform l = record {
  found : IsFront (λ (bin : BinFiles). bin.platform) bin_lines IsFormedBin l.text l.rest l.last;
  kept : KeepsRising (λ (bin : BinFiles). bin.platform) bin_lines IsFormedBin ((32 ∷ []) ∷ codes "binfiles arch=" ∷ []) l.text l.rest l.last;
}

abbrev pub decreases-loop-platform : goal.decreases-loop-platform
decreases-loop-platform l = length l.rest
