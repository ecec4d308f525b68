use Rattle.tl_index.proofs.SelectLemmas.{TreeSoFar}
use Rattle.tl_index.proofs.index.Index.apply_tree.Given as goal

abbrev pub invariant-loop-key : goal.invariant-loop-key
invariant-loop-key l = TreeSoFar l.positive l.self l.initial.key-iterator l.key-iterator l.fn.places l.places
