use Rattle.tl_command.specs.Endings.{no_devices}
use Rattle.tl_command.proofs.Joins.{advances_start}
use Rattle.tl_command.proofs.Says.{performs_finished}
use Rattle.tl_command.proofs.closing.finish.Goals as goal

pub returns : goal.returns
returns g c = performs_finished g.H.Host.tells g.H.Host.seen c.args.session no_devices no_devices c.args.session (advances_start g.H.Host.tells c.args.session)
