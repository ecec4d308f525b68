use Rattle.std.proofs.Common.{List}
use Rattle.tl_model.specs.Volume.{Volume}
use Rattle.tl_entry.specs.declared.object.Object.{Object}
use Rattle.tl_command.specs.Endings.{no_devices}
use Rattle.tl_command.proofs.Joins.{performs_loaded}
use Rattle.tl_show.specs.Which.{which_run}
use Rattle.tl_show.proofs.finding.which.Goals as goal

pub returns-in-Ok : goal.returns-in-Ok
returns-in-Ok g c = performs_loaded g.H.Host.tells g.H.Host.seen 0 c.args.session no_devices no_devices c.search.result.ending c.search.result.state c.in-Ok.tree
    (λ (tree : Volume) (_ : List Object). which_run c.args.name.now tree) c.in-Ok.ensures.loaded c.search.ensures

pub returns-in-Err : goal.returns-in-Err
returns-in-Err g c = c.in-Err.ensures.acted (λ (tree : Volume) (_ : List Object). which_run c.args.name.now tree)
