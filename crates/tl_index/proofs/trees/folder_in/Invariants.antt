use Rattle.tl_index.proofs.TreeLemmas.{BehindSoFar}
use Rattle.tl_index.proofs.trees.folder_in.Given as goal

abbrev pub invariant-loop-at : goal.invariant-loop-at
invariant-loop-at l = BehindSoFar l.bytes l.at
