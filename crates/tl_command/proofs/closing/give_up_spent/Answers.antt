use Rattle.std.proofs.Common.{Ok, sym, subst}
use Rattle.tl_model.specs.Seen.{Seen}
use Rattle.tl_command.specs.declared.ending.Ending.TheVariants.{NoMemory}
use Rattle.tl_command.specs.Endings.{no_devices}
use Rattle.tl_command.specs.Performs.{Performs}
use Rattle.tl_command.proofs.Says.{performs_unresumed, performs_resumed_given_up}
use Rattle.tl_command.proofs.closing.give_up_spent.Goals as goal

pub returns-in-Ok : goal.returns-in-Ok
returns-in-Ok g c command =
    let e = c.in-Ok.ensures in
    let first = g.H.Host.seen c.args.host in
    subst (λ (s : Seen). Performs g.H.Host.tells g.H.Host.seen command 0 first no_devices no_devices NoMemory (Ok s)) (sym c.of_journal.ensures)
    (performs_resumed_given_up g.H.Host.tells g.H.Host.seen first no_devices no_devices c.in-Ok.recovered.journal e.resumes e.cause.later command)

pub returns-in-HostFault : goal.returns-in-HostFault
returns-in-HostFault g c command =
    let e = c.in-Err.ensures in
    performs_unresumed g.H.Host.tells g.H.Host.seen (g.H.Host.seen c.args.host) no_devices no_devices command c.in-Err.field-0.host e.resumes e.cause.later (e.cause.failed c.in-HostFault.is)
