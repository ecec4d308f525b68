use Rattle.tl_written.proofs.LineLemmas.{some_more}
use Rattle.tl_written.proofs.TextLemmas.{middle-stands, no_longdesc, no_depends, no_executes, middle-finds}
use Rattle.tl_written.proofs.middle.middle_behind.Goals as goal

pub returns-in_err-rest-clause-finds : goal.returns-in_err-rest-clause-finds
returns-in_err-rest-clause-finds c = λ o rest is lacks same. absurd (no_longdesc c.args.text.now c.in_err-rest.ensures.finds o rest is lacks same)

pub returns-in_err-rest-2-clause-finds : goal.returns-in_err-rest-2-clause-finds
returns-in_err-rest-2-clause-finds c = λ o rest is lacks same. absurd (
    no_depends c.args.text.now c.in_ok-rest.rest.now c.in_ok-rest.ensures.finds c.in_err-rest-2.ensures.finds o rest is lacks same)

pub returns-in_err-rest-3-clause-finds : goal.returns-in_err-rest-3-clause-finds
returns-in_err-rest-3-clause-finds c = λ o rest is lacks same. absurd (
    no_executes c.args.text.now c.in_ok-rest.rest.now c.in_ok-rest-2.rest.now c.in_ok-rest.ensures.finds c.in_ok-rest-2.ensures.finds c.in_err-rest-3.ensures.finds o rest is lacks same)

pub returns-clause-stands : goal.returns-clause-stands
returns-clause-stands c =
    some_more _ _ c.texts_behind-4.result
    (λ rest is. middle-stands c.args.text.now c.in_ok-rest.rest.now c.in_ok-rest-2.rest.now c.in_ok-rest-3.rest.now rest.now c.in_ok-rest.ensures.stands c.in_ok-rest-2.ensures.stands c.in_ok-rest-3.ensures.stands is)
    c.texts_behind-4.ensures.stands

pub returns-clause-finds : goal.returns-clause-finds
returns-clause-finds c =
    middle-finds c.args.text.now c.in_ok-rest.rest.now c.in_ok-rest-2.rest.now c.in_ok-rest-3.rest.now c.texts_behind-4.result
    c.in_ok-rest.ensures.finds c.in_ok-rest-2.ensures.finds c.in_ok-rest-3.ensures.finds c.texts_behind-4.ensures.finds
