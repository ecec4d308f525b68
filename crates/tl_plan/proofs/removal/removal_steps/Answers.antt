use Rattle.std.proofs.Common.{◌≡◌, ℕ, List, [], ◌∷◌, map, sym, ◌∙◌, ap}
use Rattle.tl_plan.specs.Plans.{plan_steps}
use Rattle.tl_plan.specs.Removal.{removal_order}
use Rattle.tl_plan.specs.Wanted.{AreWanted}
use Rattle.tl_plan.specs.declared.planned.Planned.TheVariants.{Remove}
use Rattle.tl_plan.proofs.SetLaws.{ok_weaker}
use Rattle.tl_plan.proofs.PlanLaws.{removes_alone}
use Rattle.tl_plan.proofs.removal.removal_steps.Goals as goal

pub returns : goal.returns
returns c =
    let db = c.args.db.now in
    ok_weaker c.steps_removing.result (λ steps. steps.items ≡ map (λ (name : List ℕ). Remove name ∷ []) c.in_ok-order.order.items)
    (λ steps. (names : List (List ℕ)) → AreWanted db names c.args.wanted.now → steps.items ≡ plan_steps db (map Remove (removal_order db names)))
    (λ steps is names are. is ∙ ap (map (λ (name : List ℕ). Remove name ∷ [])) (c.in_ok-order.ensures names are) ∙ sym (removes_alone db (removal_order db names)))
    c.steps_removing.ensures
