use Rattle.tl_index.proofs.TreeLemmas.{JoinedSoFar}
use Rattle.tl_index.proofs.trees.joined.Given as goal

abbrev pub invariant-loop-word : goal.invariant-loop-word
invariant-loop-word l = JoinedSoFar l.words l.text.items l.word-index
