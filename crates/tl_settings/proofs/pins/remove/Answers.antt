use Rattle.tl_command.proofs.Joins.{performs_of}
use Rattle.tl_settings.proofs.PinLabels.{glob-text}
use Rattle.tl_settings.proofs.pins.remove.Goals as goal

pub returns-in-Err : goal.returns-in-Err
returns-in-Err g c = performs_of _ _ _ _ _ _ _ c.of_tree-in-Err.ensures (c.give_up.ensures _)

pub refuse_glob-requires : goal.refuse_glob-requires
refuse_glob-requires g c = rw c.bytes.ensures.bytes (glob-text c.in-Some.glob.now c.in-Some.ensures.form)
