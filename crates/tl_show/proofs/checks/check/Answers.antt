use Rattle.tl_model.specs.Volume.{Volume}
use Rattle.tl_command.specs.Endings.{no_devices}
use Rattle.tl_command.proofs.Joins.{performs_loaded}
use Rattle.tl_show.specs.Check.{check_run}
use Rattle.tl_show.proofs.checks.check.Goals as goal

pub returns-in-Ok : goal.returns-in-Ok
returns-in-Ok g c = performs_loaded g.H.Host.tells g.H.Host.seen 0 c.args.session no_devices no_devices c.check_tree.result.ending c.check_tree.result.state c.in-Ok.tree
    (λ (tree : Volume). check_run c.args.what tree) c.in-Ok.ensures.loaded c.check_tree.ensures

pub returns-in-Err : goal.returns-in-Err
returns-in-Err g c = c.in-Err.ensures.acted (λ tree. check_run c.args.what tree)
