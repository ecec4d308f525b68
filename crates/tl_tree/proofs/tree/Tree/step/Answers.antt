use Rattle.std.proofs.Common.{◌∙◌, List, ap}
use Rattle.tl_tree.specs.declared.change.Part.{Part}
use Rattle.tl_tree.specs.Changes.{entries_after}
use Rattle.tl_tree.specs.Filled.{filled}
use Rattle.tl_tree.specs.Opened.{Opened, given}
use Rattle.tl_tree.proofs.Stepping.{filled_none, begun_whole, lost_opening, step_stepped, step_lost}
use Rattle.tl_tree.proofs.tree.Tree.step.Goals as goal

pub returns-in-Err-clause-lost : goal.returns-in-Err-clause-lost
returns-in-Err-clause-lost g c t =
    lost_opening c.args.self c.args.change.now.parts c.args.change.now.label c.in-Err.lost.fault (g.H.Host.seen c.in-Err.lost.host) c.requires.change.label (c.stands.ensures.tree t) (c.in-Err.ensures.stages t)

pub finish-requires : goal.finish-requires
finish-requires g c = begun_whole c.args.self c.args.change.now.parts c.args.change.now.label c.in-Ok.step c.in-Ok.ensures.opened.0 c.requires.whole

pub returns-in-Ok-finish-clause-db : goal.returns-in-Ok-finish-clause-db
returns-in-Ok-finish-clause-db g c =
    let step = c.in-Ok.step in
    let parts = c.args.change.now.parts in
    let is = c.in-Ok.ensures.opened.0 in (
      c.in-Ok-finish.ensures.db
          ∙ ap (λ (ps : List Part). entries_after ps step.db) (ap (λ (o : Opened). filled (given step) o.parts) is ∙ filled_none (given step) parts c.requires.whole)
          ∙ ap (λ (o : Opened). entries_after parts o.db) is,
      c.in-Ok.ensures.opened.1,
    )

pub returns-in-Ok-finish-clause-stepped : goal.returns-in-Ok-finish-clause-stepped
returns-in-Ok-finish-clause-stepped g c t =
    step_stepped c.args.self c.args.change.now.parts c.args.change.now.label c.in-Ok.step c.in-Ok.ensures.opened.0 c.requires.whole (c.stands.ensures.tree t) (c.in-Ok.ensures.stages t)
    c.in-Ok-finish.tree (c.in-Ok-finish.ensures.stepped t)

pub returns-in-Err-finish-clause-lost : goal.returns-in-Err-finish-clause-lost
returns-in-Err-finish-clause-lost g c t =
    step_lost c.args.self c.args.change.now.parts c.args.change.now.label c.in-Ok.step c.in-Ok.ensures.opened.0 c.requires.whole (c.stands.ensures.tree t) (c.in-Ok.ensures.stages t)
    (g.H.Host.seen c.in-Err-finish.lost.host) (c.in-Err-finish.ensures.lost t)
