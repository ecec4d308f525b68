use Rattle.tl_written.proofs.DocLemmas.{cut-spaced, cut-unspaced}
use Rattle.tl_written.proofs.docs.path_and_marks.Goals as goal

pub returns-in-Some-clause-finds : goal.returns-in-Some-clause-finds
returns-in-Some-clause-finds c = cut-spaced c.args.line.now c.in-Some.end c.in-Some.ensures.0 c.in-Some.ensures.1

pub returns-in-None-clause-finds : goal.returns-in-None-clause-finds
returns-in-None-clause-finds c = cut-unspaced c.args.line.now c.in-None.ensures
