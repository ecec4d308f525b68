use Rattle.std.proofs.Common.{List, Result, Ok, All, sym, subst, ◌∙◌, ap}
use Rattle.tl_command.specs.Endings.{no_devices}
use Rattle.tl_command.specs.Performs.{Performs}
use Rattle.tl_command.proofs.Joins.{performs_of}
use Rattle.tl_plan.specs.declared.planned.Planned.{Planned}
use Rattle.tl_plan.specs.declared.error.PlanError.{PlanError}
use Rattle.tl_plan.specs.declared.error.PlanError.TheVariants.{Protected, NotInstalled, Needed}
use Rattle.tl_packages.specs.Remove.{RemovesOne, plan_run}
use Rattle.tl_packages.proofs.PlanLaws.{all_one, refused_by}
use Rattle.tl_packages.proofs.removing.remove_from.Goals as goal

pub make_steps-requires : goal.make_steps-requires
make_steps-requires g c =
    subst (λ (steps : List (List Planned)). All RemovesOne steps) (sym c.deref.ensures.value)
    (all_one c.args.tree.db c.args.names.now c.args.force c.in-Ok.steps.items c.in-Ok.ensures.steps)

pub returns-in-Ok : goal.returns-in-Ok
returns-in-Ok g c =
    let tree = c.args.tree in
    let ending = c.make_steps.result.ending in
    let state = c.make_steps.result.state in
    subst (λ (plan : Result (List (List Planned)) PlanError). Performs g.H.Host.tells g.H.Host.seen (λ t. plan_run c.args.formats plan tree.db t) 0 tree.seen no_devices no_devices ending state)
    (ap Ok c.deref.ensures.value ∙ sym c.in-Ok.ensures.steps) c.make_steps.ensures

pub returns-in-Err-Protected : goal.returns-in-Err-Protected
returns-in-Err-Protected g c =
    let tree = c.args.tree in
    let ending = c.refuse.result.ending in
    let state = c.refuse.result.state in
    let fault = Protected c.in-Err-Protected.name in
    subst (λ (plan : Result (List (List Planned)) PlanError). Performs g.H.Host.tells g.H.Host.seen (λ t. plan_run c.args.formats plan tree.db t) 0 tree.seen no_devices no_devices ending state)
    (sym (refused_by tree.db c.args.names.now c.args.force fault (rw c.in-Err-Protected.field-0-is at c.in-Err-Protected.ensures.fault)))
    (performs_of _ _ _ _ _ _ _ c.of_tree.ensures c.refuse.ensures.performs)

pub returns-in-Err-NotInstalled : goal.returns-in-Err-NotInstalled
returns-in-Err-NotInstalled g c =
    let tree = c.args.tree in
    let ending = c.refuse-in-Err-NotInstalled.result.ending in
    let state = c.refuse-in-Err-NotInstalled.result.state in
    let fault = NotInstalled c.in-Err-NotInstalled.name in
    subst (λ (plan : Result (List (List Planned)) PlanError). Performs g.H.Host.tells g.H.Host.seen (λ t. plan_run c.args.formats plan tree.db t) 0 tree.seen no_devices no_devices ending state)
    (sym (refused_by tree.db c.args.names.now c.args.force fault (rw c.in-Err-NotInstalled.field-0-is at c.in-Err-NotInstalled.ensures.fault)))
    (performs_of _ _ _ _ _ _ _ c.of_tree-in-Err-NotInstalled.ensures c.refuse-in-Err-NotInstalled.ensures.performs)

pub returns-in-Err-Needed : goal.returns-in-Err-Needed
returns-in-Err-Needed g c =
    let tree = c.args.tree in
    let ending = c.refuse-in-Err-Needed.result.ending in
    let state = c.refuse-in-Err-Needed.result.state in
    let fault = Needed c.in-Err-Needed.name c.in-Err-Needed.by in
    subst (λ (plan : Result (List (List Planned)) PlanError). Performs g.H.Host.tells g.H.Host.seen (λ t. plan_run c.args.formats plan tree.db t) 0 tree.seen no_devices no_devices ending state)
    (sym (refused_by tree.db c.args.names.now c.args.force fault (rw c.in-Err-Needed.field-0-is at c.in-Err-Needed.ensures.fault)))
    (performs_of _ _ _ _ _ _ _ c.of_tree-in-Err-Needed.ensures c.refuse-in-Err-Needed.ensures.performs)

pub returns-in-Err-NoMemory : goal.returns-in-Err-NoMemory
returns-in-Err-NoMemory g c = performs_of _ _ _ _ _ _ _ c.of_tree-in-Err-NoMemory.ensures (c.give_up.ensures _)
