use Rattle.std.proofs.Common.{length}
use Rattle.tl_depend.proofs.WordLemmas.{ArePassed}
use Rattle.tl_depend.proofs.words.are_platforms.Given as goal

abbrev pub invariant-loop-word : goal.invariant-loop-word
invariant-loop-word l = ArePassed l.text l.rest l.count

abbrev pub decreases-loop-word : goal.decreases-loop-word
decreases-loop-word l = length l.rest
