use Rattle.std.proofs.Common.{Vec, Global, List, Option, ◌∙◌, ap, sym, subst}
use Rattle.std.specs.Option.{option_or}
use Rattle.tl_coming.specs.Asked.{Answers, tree_in, unless_fault}
use Rattle.tl_coming.specs.Cuts.{plan_cuts}
use Rattle.tl_coming.specs.Planning.{plan_fault}
use Rattle.tl_coming.specs.Refused.{IsWantedFault}
use Rattle.tl_coming.specs.declared.error.ComingError.{ComingError}
use Rattle.tl_coming.specs.declared.part.PlanPart.{PlanPart}
use Rattle.tl_coming.proofs.TreeLaws.{wanted_answers, never_host}
use Rattle.tl_bring.specs.Installation.{install_fault, install_plan}
use Rattle.tl_bring.proofs.installing.plan_install.Goals as goal

pub returns-in-Ok-clause-plan : goal.returns-in-Ok-clause-plan
returns-in-Ok-clause-plan g c t =
    let repos = c.args.repos.now in
    let db = c.args.tree.now.db in
    let plan = install_plan c.args.pins.now repos db c.args.names.now c.args.ask.now in
    subst (Answers (λ steps. steps.items) c.install_steps.result)
    (ap (λ (w : Option ComingError). unless_fault (option_or w (plan_fault repos db (tree_in c.args.tree.now) plan)) (plan_cuts repos db plan))
    (sym c.in-Ok.ensures.ok))
    (c.install_steps.ensures.plan t)

pub returns-in-Err-clause-plan : goal.returns-in-Err-clause-plan
returns-in-Err-clause-plan g c t =
    wanted_answers (λ (steps : Vec (List PlanPart) Global). steps.items) (install_fault c.args.pins.now c.args.repos.now c.args.names.now) _ _ c.in-Err.fault
    c.in-Err.ensures.fault

pub returns-in-Err-clause-cause : goal.returns-in-Err-clause-cause
returns-in-Err-clause-cause g c = never_host _ c.in-Err.fault c.args.tree.now c.args.tree.now c.in-Err.ensures.fault
