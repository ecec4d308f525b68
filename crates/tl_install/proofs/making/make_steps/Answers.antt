use Rattle.std.proofs.Common.{◌&&◌, List, Option, ap, subst, ◌∙◌}
use Rattle.tl_entry.specs.declared.object.Object.{Object}
use Rattle.tl_command.specs.Performs.{Performs}
use Rattle.tl_command.proofs.Joins.{performs_of}
use Rattle.tl_fill.specs.Filling.{beside_shelf}
use Rattle.tl_formats.specs.Ending.{before_of, formats_end}
use Rattle.std.specs.Prelude.{length}
use Rattle.tl_install.specs.Steps.{steps_run}
use Rattle.tl_install.proofs.LeftLemmas.{before_changes}
use Rattle.tl_install.proofs.StepsLemmas.{performs_apart}
use Rattle.tl_install.proofs.making.make_steps.Goals as goal

pub returns-in_default : goal.returns-in_default
returns-in_default g c =
    let both = beside_shelf (g.S.Shelf.seen c.args.shelf.now).faults in
    performs_apart g.S.Shelf.tells g.H.Host.tells g.H.Host.seen c.args.tree.seen both both c.give_up.result.ending c.give_up.result.state _ (performs_of _ _ _ _ _ _ _ c.of_tree.ensures (c.give_up.ensures _))

pub end_steps-requires : goal.end_steps-requires
end_steps-requires g c =
    before_changes c.args.formats c.args.tree.db c.in-Ok-make_all.last.db _ c.in-Ok.before (c.in-Ok.ensures ∙ ap (before_of c.args.formats) c.db.ensures) c.in-Ok-make_all.ensures.changes

pub returns-in-Ok-make_all : goal.returns-in-Ok-make_all
returns-in-Ok-make_all g c =
    let tells = g.S.Shelf.tells && g.H.Host.tells in
    let seen = g.H.Host.seen in
    let shelf = g.S.Shelf.seen c.args.shelf.now in
    let volumes = shelf.repositories in
    let repos = c.args.repos.now in
    let steps = c.args.steps.now in
    let old = c.args.tree in
    let last = c.in-Ok-make_all.last in
    let ending = c.end_steps.result.ending in
    let state = c.end_steps.result.state in
    let before = beside_shelf shelf.faults in
    let after = beside_shelf (g.S.Shelf.seen c.make_all.new.shelf).faults in
    subst (λ (first : Option (List Object)). Performs tells seen (λ t. steps_run volumes repos 1 (length steps) steps (formats_end first) old.db t) 0 old.seen before after ending state)
    (c.in-Ok.ensures ∙ ap (before_of c.args.formats) c.db.ensures)
    (c.in-Ok-make_all.ensures.made.on (formats_end c.in-Ok.before) before after ending state
    (performs_apart g.S.Shelf.tells g.H.Host.tells seen last.seen before after ending state (λ t. formats_end c.in-Ok.before last.db t) c.end_steps.ensures))

pub returns-in-Err : goal.returns-in-Err
returns-in-Err g c = c.in-Err.ensures.acted (formats_end (before_of c.args.formats c.args.tree.db))
