use Rattle.tl_written.proofs.FirstLemmas.{relocated-stands, not_relocated-stands, relocated_found, not_relocated_found}
use Rattle.tl_written.proofs.first.relocated_behind.Goals as goal

pub returns-in-Some-clause-stands : goal.returns-in-Some-clause-stands
returns-in-Some-clause-stands c = relocated-stands c.args.text.now c.in-Some.rest.now c.in-Some.ensures.stands

pub returns-in-Some-clause-finds : goal.returns-in-Some-clause-finds
returns-in-Some-clause-finds c = λ is_relocated rest lacks same. relocated_found is_relocated c.args.text.now c.in-Some.rest.now rest c.in-Some.ensures.stands lacks same

pub returns-in-None-clause-stands : goal.returns-in-None-clause-stands
returns-in-None-clause-stands c = not_relocated-stands c.args.text.now

pub returns-in-None-clause-finds : goal.returns-in-None-clause-finds
returns-in-None-clause-finds c = λ is_relocated rest lacks same. not_relocated_found is_relocated c.args.text.now rest c.in-None.ensures.none same
