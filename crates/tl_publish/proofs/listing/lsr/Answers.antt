use Rattle.tl_command.specs.Endings.{no_devices}
use Rattle.tl_command.proofs.Joins.{performs_loaded}
use Rattle.tl_publish.specs.Lsr.{lsr_run}
use Rattle.tl_publish.proofs.listing.lsr.Goals as goal

pub returns-in-Ok : goal.returns-in-Ok
returns-in-Ok g c = performs_loaded g.H.Host.tells g.H.Host.seen 0 c.args.session no_devices no_devices c.over_tree.result.ending c.over_tree.result.state c.in-Ok.tree
    lsr_run c.in-Ok.ensures.loaded c.over_tree.ensures

pub returns-in-Err : goal.returns-in-Err
returns-in-Err g c = c.in-Err.ensures.acted lsr_run
