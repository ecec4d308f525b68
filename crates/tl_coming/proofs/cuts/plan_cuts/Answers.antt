use Rattle.std.proofs.Common.{[], ◌∷◌, ◌++◌, ◌+◌, cond, ◌∙◌, ap, arith}
use Rattle.std.specs.Prelude.{nat_le}
use Rattle.tl_coming.specs.declared.part.PlanPart.{PlanPart}
use Rattle.tl_coming.proofs.CutLaws.{cut_begin, cut_next, cut_done}
use Rattle.tl_coming.proofs.cuts.plan_cuts.Goals as goal

pub loop-place-init : goal.loop-place-init
loop-place-init c = cut_begin c.args.repos.now c.args.db.now c.args.plan.now _ _ c.new-steps.ensures.items c.new-parts.ensures.items

pub loop-place-preserved : goal.loop-place-preserved
loop-place-preserved c =
    cut_next c.args.repos.now c.args.db.now c.args.plan.now c.loop-place.place c.index-plan-place.result c.loop-place.steps.items c.push_part.new.steps.items c.loop-place.parts.items
    c.push_part.new.parts.items c.loop-place.last c.in_ok-next.next c.max-last.result c.loop-place-test.true c.index-plan-place.is
    (c.in_ok-next.ensures c.args.db.now c.args.plan.now c.in_ok-lasts.ensures) c.max-last.ensures
    (c.in_ok-push_part.ensures.steps ∙ ap (λ (p : PlanPart). cond (nat_le c.max-last.result (c.loop-place.place + 1)) (c.loop-place.steps.items ++ (c.loop-place.parts.items ++ p ∷ []) ∷ []) c.loop-place.steps.items) c.in_ok-copy.ensures)
    (c.in_ok-push_part.ensures.parts ∙ ap (λ (p : PlanPart). cond (nat_le c.max-last.result (c.loop-place.place + 1)) [] (c.loop-place.parts.items ++ p ∷ [])) c.in_ok-copy.ensures) c.loop-place.invariant

pub returns : goal.returns
returns c = cut_done c.args.repos.now c.args.db.now c.args.plan.now c.loop-place.place c.loop-place.steps.items c.loop-place.parts.items c.loop-place.last
    (let e = c.loop-place-test.false in omega (arith, e)) c.loop-place.invariant
