use Rattle.tl_command.proofs.Joins.{performs_of}
use Rattle.tl_show.proofs.finding.say_listed.Goals as goal

pub returns-in-Err-NoMemory : goal.returns-in-Err-NoMemory
returns-in-Err-NoMemory g c = performs_of _ _ _ _ _ _ _ c.of_tree-in-Err-NoMemory.ensures (c.give_up.ensures _)
