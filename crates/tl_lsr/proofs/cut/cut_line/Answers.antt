use Rattle.tl_lsr.proofs.CutLemmas.{dir_at, name_at, lines_at, none_found, dir_none, name_none, lines_none}
use Rattle.tl_lsr.proofs.cut.cut_line.Goals as goal

pub returns-in-Some-clause-front : goal.returns-in-Some-clause-front
returns-in-Some-clause-front c = dir_at _ _ c.in-Some.ensures.0 c.in-Some.ensures.1

pub returns-in-Some-clause-behind : goal.returns-in-Some-clause-behind
returns-in-Some-clause-behind c = name_at _ _ c.in-Some.ensures.0 c.in-Some.ensures.1

pub returns-in-Some-clause-lines : goal.returns-in-Some-clause-lines
returns-in-Some-clause-lines c = λ some. lines_at _ _ c.in-Some.ensures.0 c.in-Some.ensures.1

pub returns-in-None-clause-front : goal.returns-in-None-clause-front
returns-in-None-clause-front c = dir_none _ (none_found _ c.in-None.ensures)

pub returns-in-None-clause-behind : goal.returns-in-None-clause-behind
returns-in-None-clause-behind c = name_none _ (none_found _ c.in-None.ensures)

pub returns-in-None-clause-lines : goal.returns-in-None-clause-lines
returns-in-None-clause-lines c = lines_none _ (none_found _ c.in-None.ensures)
