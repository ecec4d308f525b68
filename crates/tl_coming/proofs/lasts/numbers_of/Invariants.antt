use Rattle.std.proofs.Common.{take}
use Rattle.tl_coming.specs.Lasts.{AreNumbered}
use Rattle.tl_coming.proofs.lasts.numbers_of.Given as goal

abbrev pub invariant-loop-place : goal.invariant-loop-place
invariant-loop-place l = AreNumbered (take l.place l.plan) l.numbers
