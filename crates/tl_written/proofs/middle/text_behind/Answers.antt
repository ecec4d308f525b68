use Rattle.tl_text.specs.Texts.{IsText}
use Rattle.tl_object.specs.Writing.{text_line}
use Rattle.tl_written.proofs.TextLemmas.{some_text-stands, no_text-stands, absent-finds, present-finds, other-fails, text_optional, untexted}
use Rattle.tl_written.proofs.middle.text_behind.Goals as goal

pub returns-in_default-clause-stands : goal.returns-in_default-clause-stands
returns-in_default-clause-stands c = no_text-stands c.args.key.now c.args.text.now

pub returns-in_default-clause-finds : goal.returns-in_default-clause-finds
returns-in_default-clause-finds c = absent-finds c.args.key.now c.args.text.now (text_line c.args.key.now) IsText (λ text. text) (text_optional c.args.key.now) c.in_default.ensures.finds

pub returns-then-is_text-clause-stands : goal.returns-then-is_text-clause-stands
returns-then-is_text-clause-stands c = some_text-stands c.args.key.now c.in-Some.value.now c.args.text.now c.in-Some.rest.now c.requires (c.is_text.ensures.is c.if-is_text.true) c.in-Some.ensures.stands.0

pub returns-then-is_text-clause-finds : goal.returns-then-is_text-clause-finds
returns-then-is_text-clause-finds c =
    present-finds c.args.key.now c.in-Some.value.now c.args.text.now c.in-Some.rest.now (text_line c.args.key.now) IsText (λ text. text) (text_optional c.args.key.now) c.in-Some.ensures.stands.0 c.in-Some.ensures.finds

pub returns-else-is_text-clause-finds : goal.returns-else-is_text-clause-finds
returns-else-is_text-clause-finds c =
    other-fails c.args.key.now c.in-Some.value.now c.args.text.now c.in-Some.rest.now (text_line c.args.key.now) IsText (λ text. text) (text_optional c.args.key.now) c.in-Some.ensures.stands.0 c.in-Some.ensures.finds
    (λ v is same. untexted c.is_text.result c.in-Some.value.now v c.if-is_text.false c.is_text.ensures.all is same)
