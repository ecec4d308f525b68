use Rattle.tl_lsr.proofs.AcceptLemmas.{read_answers}
use Rattle.tl_lsr.proofs.WrittenLemmas.{complete_answers}
use Rattle.tl_lsr.proofs.listing.read.Goals as goal

pub returns-clause-listed : goal.returns-clause-listed
returns-clause-listed c = read_answers _ _ _ c.read_lines.ensures

pub returns-clause-complete : goal.returns-clause-complete
returns-clause-complete c = complete_answers _ _ c.read_lines.ensures
