use Rattle.std.proofs.Common.{take, drop}
use Rattle.tl_coming.proofs.CutLaws.{IsCutSoFar}
use Rattle.tl_coming.proofs.cuts.plan_cuts.Given as goal

abbrev pub invariant-loop-place : goal.invariant-loop-place
invariant-loop-place l = IsCutSoFar l.repos l.db l.plan (take l.place l.plan) (drop l.place l.plan) l.steps.items l.parts.items l.last
