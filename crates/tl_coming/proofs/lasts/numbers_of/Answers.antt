use Rattle.std.proofs.Common.{List, ◌∙◌, subst, arith}
use Rattle.std.proofs.lemmas.List.{take_all}
use Rattle.tl_coming.specs.Lasts.{AreNumbered}
use Rattle.tl_coming.specs.declared.part.PlanPart.{PlanPart}
use Rattle.tl_coming.proofs.LastLaws.{none_numbered, numbered_next}
use Rattle.tl_coming.proofs.lasts.numbers_of.Goals as goal

pub loop-place-init : goal.loop-place-init
loop-place-init c = none_numbered c.new-numbers.result c.new-numbers.ensures.empty

pub loop-place-preserved : goal.loop-place-preserved
loop-place-preserved c =
    numbered_next c.args.plan.now c.loop-place.place c.index-plan-place.result c.bytes.result.now c.loop-place.numbers c.note.new.numbers c.loop-place-test.true c.index-plan-place.is
    (c.bytes.ensures.bytes ∙ c.name.ensures) c.in_ok-note.ensures c.loop-place.invariant

pub returns : goal.returns
returns c = subst (λ (l : List PlanPart). AreNumbered l c.loop-place.numbers) (take_all c.loop-place.place c.args.plan.now (let e = c.loop-place-test.false in omega (arith, e))) c.loop-place.invariant
