use Rattle.tl_command.proofs.Joins.{performs_of}
use Rattle.tl_settings.proofs.setting.set_or_show.Goals as goal

pub returns-in-Err : goal.returns-in-Err
returns-in-Err g c = performs_of _ _ _ _ _ _ _ c.of_tree.ensures (c.give_up.ensures _)
