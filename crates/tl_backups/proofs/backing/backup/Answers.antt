use Rattle.tl_model.specs.Volume.{Volume}
use Rattle.tl_command.specs.Endings.{no_devices}
use Rattle.tl_command.proofs.Joins.{performs_loaded}
use Rattle.tl_backups.specs.Backing.{backup_run}
use Rattle.tl_backups.proofs.backing.backup.Goals as goal

pub returns-in-Ok : goal.returns-in-Ok
returns-in-Ok g c = performs_loaded g.H.Host.tells g.H.Host.seen 0 c.args.session no_devices no_devices c.back_up.result.ending c.back_up.result.state c.in-Ok.tree
    (λ (tree : Volume). backup_run c.args.names.now c.args.every tree) c.in-Ok.ensures.loaded c.back_up.ensures

pub returns-in-Err : goal.returns-in-Err
returns-in-Err g c = c.in-Err.ensures.acted (λ tree. backup_run c.args.names.now c.args.every tree)
