use Rattle.std.proofs.Common.{◌≤◌, ℕ, List, length}
use Rattle.tl_memhost.proofs.Back.{IsBack}
use Rattle.tl_memhost.proofs.stop.go_back.Given as goal

abbrev pub decreases-loop-count : goal.decreases-loop-count
decreases-loop-count l = l.count

abbrev pub invariant-loop-count : goal.invariant-loop-count
invariant-loop-count l = record {
  within : l.count ≤ length l.«record»;
  back : (said : List ℕ) → (words : List ℕ) × IsBack l.call l.«record» l.fn.files said l.count l.files words;
}
