use Rattle.std.proofs.Common.{List, ◌∙◌, ap, sym, subst, map}
use Rattle.std.specs.List.{AllByRecursion}
use Rattle.tl_entry.specs.declared.object.Object.{Object}
use Rattle.tl_tree.proofs.Distinct.{AreOnce}
use Rattle.tl_coming.specs.Asked.{Answers, tree_in}
use Rattle.tl_coming.specs.Made.{IsGiven}
use Rattle.tl_coming.specs.Parts.{part_name}
use Rattle.tl_coming.specs.Planning.{plan_or_fault}
use Rattle.tl_coming.specs.declared.part.PlanPart.{PlanPart}
use Rattle.tl_renew.specs.Updating.{update_plan}
use Rattle.tl_renew.proofs.UpdateLaws.{update_given, update_once}
use Rattle.tl_renew.proofs.updating.update_steps.Goals as goal

pub make_plan-requires-clause-named : goal.make_plan-requires-clause-named
make_plan-requires-clause-named g c = subst (λ (plan : List PlanPart). AreOnce (map part_name plan)) (sym c.in_ok-plan.ensures) (update_once c.args.pins.now c.args.repos.now c.db.result.now c.args.asked.now c.args.ask.now)

pub make_plan-requires-clause-given : goal.make_plan-requires-clause-given
make_plan-requires-clause-given g c = subst (λ (plan : List PlanPart). AllByRecursion (IsGiven c.args.repos.now) plan) (sym c.in_ok-plan.ensures) (update_given c.args.pins.now c.args.repos.now c.db.result.now c.args.asked.now c.args.ask.now)

pub returns-clause-plan : goal.returns-clause-plan
returns-clause-plan g c t =
    subst (Answers (λ steps. steps.items) c.make_plan.result)
    (ap (plan_or_fault c.args.repos.now c.args.tree.now.db (tree_in c.args.tree.now)) (c.in_ok-plan.ensures ∙ ap (λ (db : List Object). update_plan c.args.pins.now c.args.repos.now db c.args.asked.now c.args.ask.now) c.db.ensures))
    (c.make_plan.ensures.plan t)
