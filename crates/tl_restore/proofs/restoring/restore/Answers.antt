use Rattle.tl_model.specs.Volume.{Volume}
use Rattle.tl_command.specs.Endings.{no_devices}
use Rattle.tl_command.proofs.Joins.{performs_loaded}
use Rattle.tl_restore.specs.Restoring.{restore_run}
use Rattle.tl_restore.proofs.restoring.restore.Goals as goal

pub returns-in-Ok : goal.returns-in-Ok
returns-in-Ok g c = performs_loaded g.H.Host.tells g.H.Host.seen 0 c.args.session no_devices no_devices c.restore_tree.result.ending c.restore_tree.result.state c.in-Ok.tree
    (λ (tree : Volume). restore_run c.args.name c.args.revision tree) c.in-Ok.ensures.loaded c.restore_tree.ensures

pub returns-in-Err : goal.returns-in-Err
returns-in-Err g c = c.in-Err.ensures.acted (λ tree. restore_run c.args.name c.args.revision tree)
