use Rattle.std.proofs.Common.{arith}
use Rattle.tl_command.specs.Endings.{no_devices}
use Rattle.tl_command.proofs.Joins.{performs_of}
use Rattle.tl_settings.proofs.PinLabels.{performs_written, performs_overflown}
use Rattle.tl_settings.proofs.pins.write.Goals as goal

pub returns-in_default : goal.returns-in_default
returns-in_default g c = performs_of _ _ _ _ _ _ _ c.of_tree.ensures (c.give_up.ensures _)

pub returns : goal.returns
returns g c =
    performs_written g.H.Host.tells g.H.Host.seen c.args.tree.seen no_devices no_devices c.write_text.result.ending c.write_text.result.state c.args.pins.now c.in-Ok.text.items c.args.tree.db c.in-Ok.ensures.text
    (omega arith) c.write_text.ensures
