use Rattle.std.proofs.Common.{List, ℕ, subst}
use Rattle.std.specs.Prelude.{IfOk, IfErr}
use Rattle.tl_model.specs.Volume.{Volume}
use Rattle.tl_tree.specs.declared.change.Part.{Part}
use Rattle.tl_command.specs.Endings.{no_devices}
use Rattle.tl_command.specs.Labels.{step_label}
use Rattle.tl_command.specs.Loaded.{Steps}
use Rattle.tl_command.specs.Performs.{Performs}
use Rattle.tl_command.specs.Runs.{Run, stepping}
use Rattle.tl_command.proofs.Joins.{performs_of}
use Rattle.tl_packages.specs.Remove.{changes_text}
use Rattle.tl_packages.proofs.PlanLaws.{change-adding, adding-whole}
use Rattle.tl_packages.proofs.plan.make_adding.Goals as goal

pub step-requires-clause-change : goal.step-requires-clause-change
step-requires-clause-change g c =
    change-adding c.args.tree.db c.args.planned.now c.args.added.items c.in-Ok.change.parts c.in-Ok.change.label c.requires.one c.requires.added c.in-Ok.ensures.parts c.in-Ok.ensures.label

pub step-requires-clause-whole : goal.step-requires-clause-whole
step-requires-clause-whole g c = adding-whole c.args.planned.now c.args.added.items c.in-Ok.change.parts c.requires.one c.requires.added c.in-Ok.ensures.parts

pub returns-in_default-clause-acted : goal.returns-in_default-clause-acted
returns-in_default-clause-acted g c = λ rest. performs_of _ _ _ _ _ _ _ c.of_tree.ensures (c.give_up.ensures _)

pub returns-clause-made : goal.returns-clause-made
returns-clause-made g c =
    let parts = c.in-Ok.change.parts in
    subst (λ (ps : List Part). IfOk c.step.result (λ next. Steps g.H.Host.tells ps (step_label c.args.number c.args.count (changes_text c.args.planned.now)) c.args.tree next)) c.in-Ok.ensures.parts
    (subst (λ (l : List ℕ). IfOk c.step.result (λ next. Steps g.H.Host.tells parts l c.args.tree next)) c.in-Ok.ensures.text c.step.ensures.made)

pub returns-clause-acted : goal.returns-clause-acted
returns-clause-acted g c =
    let parts = c.in-Ok.change.parts in
    let old = c.args.tree in
    subst (λ (ps : List Part). IfErr c.step.result (λ acted. (rest : Volume → Run) → Performs g.H.Host.tells g.H.Host.seen
    (λ t. stepping old.db ps (step_label c.args.number c.args.count (changes_text c.args.planned.now)) (rest t) t) 0 old.seen no_devices no_devices acted.ending acted.state)) c.in-Ok.ensures.parts
    (subst (λ (l : List ℕ). IfErr c.step.result (λ acted. (rest : Volume → Run) → Performs g.H.Host.tells g.H.Host.seen
    (λ t. stepping old.db parts l (rest t) t) 0 old.seen no_devices no_devices acted.ending acted.state)) c.in-Ok.ensures.text c.step.ensures.acted)
