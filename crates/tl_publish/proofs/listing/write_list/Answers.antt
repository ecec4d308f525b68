use Rattle.std.proofs.Common.{arith}
use Rattle.tl_command.specs.Endings.{no_devices}
use Rattle.tl_publish.proofs.RunLemmas.{performs_listed}
use Rattle.tl_publish.proofs.listing.write_list.Goals as goal

pub returns : goal.returns
returns g c =
    performs_listed g.H.Host.tells g.H.Host.seen no_devices no_devices c.write_text.result.ending c.write_text.result.state c.args.tree.seen c.args.text.items c.args.tree.db (omega arith) c.write_text.ensures
