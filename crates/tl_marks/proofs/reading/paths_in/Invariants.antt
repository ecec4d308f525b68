use Rattle.tl_marks.proofs.ReadLemmas.{ReadSoFar}
use Rattle.tl_marks.proofs.reading.paths_in.Given as goal

abbrev pub invariant-loop-before : goal.invariant-loop-before
invariant-loop-before l = ReadSoFar l.counter l.first l.text l.spans l.paths.items l.before
