use Rattle.std.proofs.Common.{List, Ok, Option, map, sym, ◌∙◌, ap}
use Rattle.tl_plan.specs.Plans.{plan_steps}
use Rattle.tl_plan.specs.Removal.{removal_order, steps_unless}
use Rattle.tl_plan.specs.declared.planned.Planned.TheVariants.{Remove}
use Rattle.tl_plan.specs.declared.error.PlanError.{PlanError}
use Rattle.tl_plan.proofs.removal.removal.Goals as goal

pub returns-in-Ok-clause-steps : goal.returns-in-Ok-clause-steps
returns-in-Ok-clause-steps c =
    let db = c.args.db.now in
    let names = c.args.names.now in
    ap (λ (fault : Option PlanError). steps_unless fault (plan_steps db (map Remove (removal_order db names)))) c.in_ok-refuse_removal.ensures.ok
    ∙ ap Ok (sym (c.in-Ok.ensures names c.in_ok-wanted.ensures))
