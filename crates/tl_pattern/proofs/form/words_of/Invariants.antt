use Rattle.tl_pattern.proofs.FormLemmas.{WordsSoFar}
use Rattle.tl_pattern.proofs.form.words_of.Given as goal

abbrev pub invariant-loop-part : goal.invariant-loop-part
invariant-loop-part l = WordsSoFar l.text l.part-items l.words.items l.part-index
