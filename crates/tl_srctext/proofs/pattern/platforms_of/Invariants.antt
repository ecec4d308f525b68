use Rattle.tl_srctext.proofs.PlatformLemmas.{PlatformsSoFar}
use Rattle.tl_srctext.proofs.pattern.platforms_of.Given as goal

abbrev pub invariant-loop-part : goal.invariant-loop-part
invariant-loop-part l = PlatformsSoFar l.part-items l.platforms.items l.part-index
