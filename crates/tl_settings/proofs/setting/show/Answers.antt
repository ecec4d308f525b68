use Rattle.tl_command.proofs.Joins.{performs_of}
use Rattle.tl_settings.proofs.setting.show.Goals as goal

pub returns : goal.returns
returns g c = performs_of _ _ _ _ _ _ _ c.of_tree-in-Err.ensures (c.give_up.ensures _)
