use Rattle.tl_execute.proofs.Lists.{TextsSoFar}
use Rattle.tl_execute.proofs.list.read_texts.Given as goal

abbrev pub invariant-loop-part : goal.invariant-loop-part
invariant-loop-part l = TextsSoFar l.part-items l.texts.items l.part-index
