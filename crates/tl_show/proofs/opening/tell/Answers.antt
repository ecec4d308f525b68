use Rattle.std.proofs.Common.{List, ℕ, Option, sym, subst}
use Rattle.tl_command.specs.Endings.{no_devices}
use Rattle.tl_command.specs.Performs.{Performs}
use Rattle.tl_command.specs.Runs.{saying}
use Rattle.tl_command.proofs.Joins.{performs_of}
use Rattle.tl_show.specs.Opening.{told_run}
use Rattle.tl_show.proofs.opening.tell.Goals as goal

pub returns-in-Ok : goal.returns-in-Ok
returns-in-Ok g c said ok unknown =
    let tells = g.H.Host.tells in
    let seen = g.H.Host.seen in
    let ending = c.say.result.ending in
    let state = c.say.result.state in
    subst (λ (o : Option (List ℕ)). Performs tells seen (λ _. told_run c.args.name o) 0 c.args.tree.seen no_devices no_devices ending state) (sym (rw c.in-Ok.is at ok))
    (performs_of tells seen (λ _. saying c.in-Ok.text.items) c.of_tree-session.result c.args.tree.seen ending state c.of_tree-session.ensures
    (subst (λ (bytes : List ℕ). Performs tells seen (λ _. saying bytes) 0 c.of_tree-session.result no_devices no_devices ending state) c.deref.ensures.value c.say.ensures))

pub returns-in-Err : goal.returns-in-Err
returns-in-Err g c said ok unknown =
    performs_of g.H.Host.tells g.H.Host.seen (λ _. told_run c.args.name said) c.of_tree-session.result c.args.tree.seen c.tell_nothing.result.ending c.tell_nothing.result.state c.of_tree-session.ensures
    (c.tell_nothing.ensures said (rw c.in-Err.is at unknown))
