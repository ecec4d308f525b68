use Rattle.std.proofs.Common.{◌≡◌, List, Ok, subst}
use Rattle.std.specs.Prelude.{IfOk}
use Rattle.tl_entry.specs.declared.object.Object.{Object}
use Rattle.tl_plan.specs.Removal.{removal_of}
use Rattle.tl_plan.proofs.removal.plan_remove.Goals as goal

pub returns-clause-steps : goal.returns-clause-steps
returns-clause-steps g c =
    subst (λ (db : List Object). IfOk c.removal.result (λ steps. removal_of db c.args.names.now c.args.force ≡ Ok steps.items)) c.db.ensures c.removal.ensures.steps
