use Rattle.std.proofs.Common.{◌≡◌, ◌∷◌, length}
use Rattle.tl_publish.proofs.LowestLemmas.{Rises, has_below}
use Rattle.tl_publish.proofs.lowest.has_below.Given as goal

abbrev pub invariant-loop-other : goal.invariant-loop-other
invariant-loop-other l = (has_below l.rest l.name ≡ has_below l.behind l.name) × Rises (l.name ∷ l.rest)

abbrev pub decreases-loop-other : goal.decreases-loop-other
decreases-loop-other l = length l.rest
