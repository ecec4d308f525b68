use Rattle.tl_index.proofs.FrontLemmas.{PlainSoFar}
use Rattle.tl_index.proofs.fronts.plain_front.Given as goal

abbrev pub invariant-loop-at : goal.invariant-loop-at
invariant-loop-at l = PlainSoFar l.glob l.at
