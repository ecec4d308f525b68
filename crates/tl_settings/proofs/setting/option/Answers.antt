use Rattle.tl_action.specs.Texts.{texts}
use Rattle.tl_model.specs.Volume.{Volume}
use Rattle.tl_command.specs.Endings.{no_devices}
use Rattle.tl_command.proofs.Joins.{performs_loaded}
use Rattle.tl_settings.specs.Settings.{option_run}
use Rattle.tl_settings.proofs.setting.option.Goals as goal

pub returns-in-Ok : goal.returns-in-Ok
returns-in-Ok g c = performs_loaded g.H.Host.tells g.H.Host.seen 0 c.args.session no_devices no_devices c.set_or_show.result.ending c.set_or_show.result.state c.in-Ok.tree
    (λ (tree : Volume). option_run c.args.option (texts c.args.values.now) tree) c.in-Ok.ensures.loaded c.set_or_show.ensures

pub returns-in-Err : goal.returns-in-Err
returns-in-Err g c = c.in-Err.ensures.acted (λ tree. option_run c.args.option (texts c.args.values.now) tree)
