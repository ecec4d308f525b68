use Rattle.std.proofs.Common.{List, Option, ap, subst, ◌∙◌}
use Rattle.tl_entry.specs.declared.object.Object.{Object}
use Rattle.tl_formats.specs.Ending.{before_of, formats_end}
use Rattle.tl_command.specs.Endings.{no_devices}
use Rattle.tl_command.specs.Performs.{Performs}
use Rattle.tl_command.proofs.Joins.{performs_of}
use Rattle.tl_packages.specs.Remove.{each_step_run}
use Rattle.tl_packages.proofs.PlanLaws.{before_changes}
use Rattle.tl_packages.proofs.plan.make_steps.Goals as goal

pub returns-in_default : goal.returns-in_default
returns-in_default g c = performs_of _ _ _ _ _ _ _ c.of_tree.ensures (c.give_up.ensures _)

pub end_steps-requires : goal.end_steps-requires
end_steps-requires g c =
    before_changes c.args.formats c.args.tree.db c.in-Ok-make_all.last.db _ c.in-Ok.before (c.in-Ok.ensures ∙ ap (before_of c.args.formats) c.db.ensures) c.in-Ok-make_all.ensures.changes

pub returns-in-Ok-make_all : goal.returns-in-Ok-make_all
returns-in-Ok-make_all g c =
    let old = c.args.tree in
    let ending = c.end_steps.result.ending in
    let state = c.end_steps.result.state in
    subst (λ (before : Option (List Object)). Performs g.H.Host.tells g.H.Host.seen (λ t. each_step_run c.args.steps.now (formats_end before) old.db t) 0 old.seen no_devices no_devices ending state)
    (c.in-Ok.ensures ∙ ap (before_of c.args.formats) c.db.ensures)
    (c.in-Ok-make_all.ensures.made.on (formats_end c.in-Ok.before) ending state c.end_steps.ensures)

pub returns-in-Err : goal.returns-in-Err
returns-in-Err g c = c.in-Err.ensures.acted (formats_end (before_of c.args.formats c.args.tree.db))
