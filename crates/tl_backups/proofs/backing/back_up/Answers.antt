use Rattle.tl_command.proofs.Joins.{performs_of}
use Rattle.tl_backups.proofs.backing.back_up.Goals as goal

pub returns-in_default : goal.returns-in_default
returns-in_default g c = performs_of _ _ _ _ _ _ _ c.of_tree.ensures (c.give_up.ensures _)

pub returns : goal.returns
returns g c = performs_of _ _ _ _ _ _ _ c.of_tree-in-Err.ensures (c.give_up-in-Err.ensures _)
