use Rattle.std.proofs.Common.{ℕ, List, subst, ◌∙◌}
use Rattle.tl_entry.specs.declared.object.Object.{Object}
use Rattle.tl_trigger.specs.Stale.{stale, format_lines}
use Rattle.tl_command.specs.Endings.{no_devices}
use Rattle.tl_command.specs.Performs.{Performs}
use Rattle.tl_command.specs.Runs.{saying}
use Rattle.tl_command.proofs.Joins.{performs_of}
use Rattle.tl_formats.proofs.ending.say_stale.Goals as goal

pub returns-in-Ok : goal.returns-in-Ok
returns-in-Ok g c =
    let tells = g.H.Host.tells in
    let seen = g.H.Host.seen in
    let old = c.args.tree.seen in
    let ending = c.say.result.ending in
    let state = c.say.result.state in
    subst (λ (db : List Object). Performs tells seen (λ _. saying (format_lines (stale c.args.old.now db))) 0 old no_devices no_devices ending state) c.db.ensures
    (subst (λ (bytes : List ℕ). Performs tells seen (λ _. saying bytes) 0 old no_devices no_devices ending state) (c.deref.ensures.value ∙ c.in-Ok.ensures.lines)
    (performs_of tells seen (λ _. saying c.deref.result.now) c.of_tree.result old ending state c.of_tree.ensures c.say.ensures))

pub returns-in-Err : goal.returns-in-Err
returns-in-Err g c = performs_of _ _ _ _ _ _ _ c.of_tree-in-Err.ensures (c.give_up.ensures _)
