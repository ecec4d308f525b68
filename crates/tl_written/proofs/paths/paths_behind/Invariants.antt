use Rattle.std.proofs.Common.{List, ℕ, [], ◌∷◌, length}
use Rattle.tl_path.specs.Path.{IsPath}
use Rattle.tl_object.specs.Writing.{path_line}
use Rattle.tl_written.specs.Rises.{IsFront}
use Rattle.tl_written.proofs.LeftLemmas.{KeepsRising}
use Rattle.tl_written.proofs.paths.paths_behind.Given as goal

abbrev pub invariant-loop-path : goal.invariant-loop-path
invariant-loop-path l = record {
  found : IsFront (λ (path : List ℕ). path) path_line IsPath l.text l.rest l.last;
  kept : KeepsRising (λ (path : List ℕ). path) path_line IsPath ((32 ∷ []) ∷ []) l.text l.rest l.last;
}

abbrev pub decreases-loop-path : goal.decreases-loop-path
decreases-loop-path l = length l.rest
