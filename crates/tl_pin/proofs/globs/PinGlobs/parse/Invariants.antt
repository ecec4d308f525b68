use Rattle.tl_pin.proofs.GlobLemmas.{TakenSoFar}
use Rattle.tl_pin.proofs.globs.PinGlobs.parse.Given as goal

abbrev pub invariant-loop-text : goal.invariant-loop-text
invariant-loop-text l = TakenSoFar l.texts l.items.items l.text-index
