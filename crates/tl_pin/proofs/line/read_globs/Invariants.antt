use Rattle.tl_pin.proofs.GlobLemmas.{GlobsSoFar}
use Rattle.tl_pin.proofs.line.read_globs.Given as goal

abbrev pub invariant-loop-part : goal.invariant-loop-part
invariant-loop-part l = GlobsSoFar l.part-items l.globs.items l.part-index
