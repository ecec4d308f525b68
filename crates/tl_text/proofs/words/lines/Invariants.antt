use Rattle.tl_text.proofs.Runs.{LinesSoFar}
use Rattle.tl_text.proofs.words.lines.Given as goal

abbrev pub invariant-loop-i : goal.invariant-loop-i
invariant-loop-i l = LinesSoFar l.text l.spans.items l.start l.i
