use Rattle.tl_auto.specs.Wanted.{run_texts}
use Rattle.tl_auto.proofs.patterns.push_runs.Goals as goal

pub returns : goal.returns
unfolding run_texts
returns c = c.push_texts.ensures
