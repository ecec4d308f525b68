use Rattle.std.proofs.Common.{arith}
use Rattle.tl_object.proofs.CutLemmas.{cut_by, cut_none, apart}
use Rattle.tl_object.proofs.source.cut_at.Goals as goal

pub returns-in-Some : goal.returns-in-Some
returns-in-Some c = cut_by _ _ _ c.in-Some.ensures.0 c.in-Some.ensures.1

pub returns-in-None : goal.returns-in-None
returns-in-None c = cut_none _ _ (λ k lt. apart _ _ 0 _ c.in-None.ensures k (omega arith) lt)
