use Rattle.tl_path.proofs.Split.{cut}
use Rattle.tl_path.proofs.components.component_end.Goals as goal

pub returns : goal.returns
returns c = cut c.args.text.now _ c.first_slash.ensures
