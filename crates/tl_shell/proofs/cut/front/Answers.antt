use Rattle.tl_shell.proofs.CutLemmas.{cut_found, cut_open}
use Rattle.tl_shell.proofs.cut.front.Goals as goal

pub returns-in-Some : goal.returns-in-Some
returns-in-Some c = cut_found _ _ c.in-Some.ensures.0 c.in-Some.ensures.1

pub returns-in-None : goal.returns-in-None
returns-in-None c = cut_open _ c.in-None.ensures
