use Rattle.tl_model.specs.Volume.{Volume}
use Rattle.tl_command.specs.Endings.{no_devices}
use Rattle.tl_command.proofs.Joins.{performs_loaded}
use Rattle.tl_packages.specs.Remove.{remove_run}
use Rattle.tl_packages.proofs.removing.remove.Goals as goal

pub returns-in-Ok : goal.returns-in-Ok
returns-in-Ok g c = performs_loaded g.H.Host.tells g.H.Host.seen 0 c.args.session no_devices no_devices c.remove_from.result.ending c.remove_from.result.state c.in-Ok.tree
    (λ (tree : Volume). remove_run c.args.names.now c.args.force c.args.formats tree) c.in-Ok.ensures.loaded c.remove_from.ensures

pub returns-in-Err : goal.returns-in-Err
returns-in-Err g c = c.in-Err.ensures.acted (λ tree. remove_run c.args.names.now c.args.force c.args.formats tree)
