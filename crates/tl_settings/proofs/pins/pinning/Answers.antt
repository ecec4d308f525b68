use Rattle.std.proofs.Common.{List}
use Rattle.tl_model.specs.Volume.{Volume}
use Rattle.tl_entry.specs.declared.object.Object.{Object}
use Rattle.tl_command.specs.Endings.{no_devices}
use Rattle.tl_command.proofs.Joins.{performs_loaded}
use Rattle.tl_offer.specs.Pinned.{over_pins}
use Rattle.tl_settings.specs.Pinning.{pinning_run}
use Rattle.tl_settings.proofs.pins.pinning.Goals as goal

pub returns-in-Ok : goal.returns-in-Ok
returns-in-Ok g c = performs_loaded g.H.Host.tells g.H.Host.seen 0 c.args.session no_devices no_devices c.over_tree.result.ending c.over_tree.result.state c.in-Ok.tree
    (λ (tree : Volume) (entries : List Object). over_pins (pinning_run c.args.asked tree entries) tree) c.in-Ok.ensures.loaded c.over_tree.ensures

pub returns-in-Err : goal.returns-in-Err
returns-in-Err g c = c.in-Err.ensures.acted (λ tree entries. over_pins (pinning_run c.args.asked tree entries) tree)
