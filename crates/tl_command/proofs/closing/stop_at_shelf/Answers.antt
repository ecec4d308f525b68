use Rattle.tl_command.proofs.Joins.{performs_stopped, advances_start}
use Rattle.tl_command.proofs.closing.stop_at_shelf.Goals as goal

pub returns : goal.returns
returns g c command before after rose =
    performs_stopped g.H.Host.tells g.H.Host.seen c.args.session c.args.session before after command rose (advances_start g.H.Host.tells c.args.session)
