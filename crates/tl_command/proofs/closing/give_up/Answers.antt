use Rattle.tl_command.specs.Endings.{no_devices}
use Rattle.tl_command.proofs.Joins.{performs_given_up, advances_start}
use Rattle.tl_command.proofs.closing.give_up.Goals as goal

pub returns : goal.returns
returns g c command = performs_given_up g.H.Host.tells g.H.Host.seen c.args.session c.args.session no_devices no_devices command (advances_start g.H.Host.tells c.args.session)
