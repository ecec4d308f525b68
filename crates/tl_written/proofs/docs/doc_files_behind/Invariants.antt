use Rattle.std.proofs.Common.{length, [], ◌∷◌}
use Rattle.tl_entry.specs.Parts.{FileEntry}
use Rattle.tl_object.specs.Formed.{IsFormedFile}
use Rattle.tl_object.specs.Writing.{file_line}
use Rattle.tl_written.specs.Rises.{IsFront}
use Rattle.tl_written.proofs.LeftLemmas.{KeepsRising}
use Rattle.tl_written.proofs.docs.doc_files_behind.Given as goal

abbrev pub invariant-loop-path : goal.invariant-loop-path
invariant-loop-path l = record {
  found : IsFront (λ (file : FileEntry). file.path) file_line IsFormedFile l.text l.rest l.last;
  kept : KeepsRising (λ (file : FileEntry). file.path) file_line IsFormedFile ((32 ∷ []) ∷ []) l.text l.rest l.last;
}

abbrev pub decreases-loop-path : goal.decreases-loop-path
decreases-loop-path l = length l.rest
