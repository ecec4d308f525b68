use Rattle.tl_action.specs.Table.{session_options}
use Rattle.tl_action.proofs.help.push_own_options.Goals as goal

pub returns : goal.returns
unfolding session_options
returns c = c.push_options.ensures
