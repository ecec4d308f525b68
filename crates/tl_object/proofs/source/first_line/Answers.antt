use Rattle.std.proofs.Common.{arith}
use Rattle.tl_object.proofs.CutLemmas.{lines_by, lines_none, apart}
use Rattle.tl_object.proofs.source.first_line.Goals as goal

pub returns-in-Some-clause-first : goal.returns-in-Some-clause-first
returns-in-Some-clause-first c = lines_by _ _ c.in-Some.ensures.0 c.in-Some.ensures.1

pub returns-in-None-clause-first : goal.returns-in-None-clause-first
returns-in-None-clause-first c = lines_none _ c.requires (λ k lt. apart 10 _ 0 _ c.in-None.ensures k (omega arith) lt)
