use Rattle.std.proofs.Common.{List, ℕ, subst}
use Rattle.tl_command.specs.Endings.{no_devices}
use Rattle.tl_command.specs.Runs.{saying}
use Rattle.tl_command.specs.Performs.{Performs}
use Rattle.tl_command.proofs.Joins.{performs_rewritten}
use Rattle.tl_show.specs.Dump.{dump_run}
use Rattle.tl_show.proofs.dump.dump_tlpdb.Goals as goal

pub returns-in-Ok : goal.returns-in-Ok
returns-in-Ok g c =
    let ending = c.say.result.ending in
    let state = c.say.result.state in
    performs_rewritten g.H.Host.tells g.H.Host.seen 0 c.args.session no_devices no_devices ending state c.in-Ok.session c.in-Ok.text.items c.in-Ok.ensures.text
    (subst (λ (text : List ℕ). Performs g.H.Host.tells g.H.Host.seen (λ _. saying text) 0 c.in-Ok.session no_devices no_devices ending state) c.deref.ensures.value c.say.ensures)

pub returns-in-Err : goal.returns-in-Err
returns-in-Err g c = c.in-Err.ensures.acted (λ _. dump_run)
