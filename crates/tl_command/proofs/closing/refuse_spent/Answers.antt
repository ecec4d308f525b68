use Rattle.std.proofs.Common.{◌∙◌, ap}
use Rattle.tl_model.specs.Seen.{Seen}
use Rattle.tl_command.specs.Endings.{no_devices}
use Rattle.tl_command.specs.Runs.{refused}
use Rattle.tl_command.proofs.Joins.{performs_of}
use Rattle.tl_command.proofs.Says.{performs_unresumed, performs_resumed}
use Rattle.tl_command.proofs.closing.refuse_spent.Goals as goal

pub returns-in-Ok : goal.returns-in-Ok
returns-in-Ok g c =
    let e = c.in-Ok.ensures in
    performs_resumed g.H.Host.tells g.H.Host.seen (g.H.Host.seen c.args.host) no_devices no_devices c.in-Ok.recovered.journal e.resumes e.cause.later
    c.args.refusal c.refuse.result.ending c.refuse.result.state (performs_of _ _ _ _ _ _ _ c.of_journal.ensures c.refuse.ensures.performs)
    (λ t. c.refuse.ensures.unsynced t ∙ ap (λ (s : Seen). s.syncs) c.of_journal.ensures)

pub returns-in-HostFault : goal.returns-in-HostFault
returns-in-HostFault g c =
    let e = c.in-Err.ensures in
    performs_unresumed g.H.Host.tells g.H.Host.seen (g.H.Host.seen c.args.host) no_devices no_devices (λ _. refused c.args.refusal) c.in-Err.field-0.host e.resumes e.cause.later (e.cause.failed c.in-HostFault.is)
