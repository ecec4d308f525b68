use Rattle.tl_index.proofs.PlaceLemmas.{AtSoFar}
use Rattle.tl_index.proofs.select.hits_at.Given as goal

abbrev pub invariant-loop-place : goal.invariant-loop-place
invariant-loop-place l = AtSoFar l.places l.place-iterator l.entries l.hits.items
