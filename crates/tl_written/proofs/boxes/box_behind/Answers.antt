use Rattle.tl_written.proofs.LineLemmas.{some_more}
use Rattle.tl_written.proofs.BoxLemmas.{box_stands, box-fails, box-finds}
use Rattle.tl_written.proofs.boxes.box_behind.Goals as goal

pub returns-in_err-rest-clause-finds : goal.returns-in_err-rest-clause-finds
returns-in_err-rest-clause-finds c = λ box rest is lacks same. absurd (
    box-fails c.args.size_key.now c.args.digest_key.now c.args.text.now c.requires.apart c.in_err-rest.ensures.finds box rest is lacks same)

pub returns-clause-stands : goal.returns-clause-stands
returns-clause-stands c =
    some_more _ _ c.digest_behind.result
    (λ rest is. box_stands c.args.size_key.now c.args.digest_key.now c.args.text.now c.in_ok-rest.rest.now rest.now c.in_ok-rest.ensures.stands is) c.digest_behind.ensures.stands

pub returns-clause-finds : goal.returns-clause-finds
returns-clause-finds c =
    box-finds c.args.size_key.now c.args.digest_key.now c.args.text.now c.in_ok-rest.rest.now c.digest_behind.result c.requires.apart c.in_ok-rest.ensures.finds c.digest_behind.ensures.finds
