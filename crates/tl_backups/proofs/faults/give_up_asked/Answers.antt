use Rattle.tl_command.specs.Endings.{no_devices}
use Rattle.tl_command.proofs.Joins.{advances_quiet, performs_of, performs_quiet}
use Rattle.tl_backups.proofs.faults.give_up_asked.Goals as goal

pub returns : goal.returns
returns g c command old asked =
    let tells = g.H.Host.tells in
    let seen = g.H.Host.seen in
    let tree = c.args.tree in
    performs_quiet tells seen 0 old.seen no_devices no_devices c.give_up.result.ending c.give_up.result.state command tree.seen (advances_quiet tells old.seen tree.seen asked.quiet asked.later)
    (performs_of _ _ _ _ _ _ _ c.of_tree.ensures (c.give_up.ensures command))
