use Rattle.tl_copying.proofs.OneLemmas.{one_publication}
use Rattle.tl_copying.proofs.ProgressLemmas.{progress}
use Rattle.tl_copying.proofs.RoundLemmas.{agreement}
use Rattle.tl_copying.proofs.copying.Copying.new.Goals as goal

pub returns-clause-agreement : goal.returns-clause-agreement
returns-clause-agreement c = agreement

pub returns-clause-one_publication : goal.returns-clause-one_publication
returns-clause-one_publication c = one_publication

pub returns-clause-progress : goal.returns-clause-progress
returns-clause-progress c = progress
