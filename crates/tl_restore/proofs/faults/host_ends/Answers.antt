use Rattle.std.proofs.Common.{◌∙◌}
use Rattle.tl_command.specs.Endings.{no_devices}
use Rattle.tl_command.proofs.Databases.{performs_unread}
use Rattle.tl_restore.proofs.faults.host_ends.Goals as goal

pub returns : goal.returns
returns g c command old asked rose =
    performs_unread g.H.Host.tells g.H.Host.seen old.seen no_devices no_devices command c.into_host.result c.args.tree.seen (c.into_host.ensures ∙ c.release.ensures) asked.quiet asked.later rose
