use Rattle.std.proofs.Common.{List, ℕ, subst}
use Rattle.tl_command.specs.Endings.{no_devices}
use Rattle.tl_command.specs.Performs.{Performs}
use Rattle.tl_command.proofs.Joins.{performs_of}
use Rattle.tl_publish.specs.Lsr.{writing_run}
use Rattle.tl_publish.proofs.listing.list_names.Goals as goal

pub returns-in-Ok : goal.returns-in-Ok
returns-in-Ok g c =
    subst (λ (text : List ℕ). Performs g.H.Host.tells g.H.Host.seen (λ t. writing_run text c.args.tree.db t) 0 c.args.tree.seen no_devices no_devices c.write_list.result.ending c.write_list.result.state)
    c.in-Ok.ensures c.write_list.ensures

pub returns-in-Err : goal.returns-in-Err
returns-in-Err g c = performs_of _ _ _ _ _ _ _ c.of_tree.ensures (c.give_up.ensures _)
