use Rattle.tl_action.specs.Table.{session_options}
use Rattle.tl_action.proofs.table.OptionName.named.Goals as goal

pub returns-then-in_session : goal.returns-then-in_session
unfolding session_options
returns-then-in_session c = rw c.if-in_session.true c.option_among.ensures

pub returns-else-in_session : goal.returns-else-in_session
unfolding session_options
returns-else-in_session c = rw c.if-in_session.false c.option_among-else-in_session.ensures
