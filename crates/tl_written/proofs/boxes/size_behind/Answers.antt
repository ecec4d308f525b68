use Rattle.std.proofs.Common.{◌<◌, ◌^◌}
use Rattle.tl_model.specs.Decimal.{decimal_text}
use Rattle.tl_object.specs.Writing.{size_line}
use Rattle.tl_written.proofs.TextLemmas.{absent-finds, present-finds, other-fails}
use Rattle.tl_written.proofs.BoxLemmas.{no_size, size_stands, size_optional, undone}
use Rattle.tl_written.proofs.boxes.size_behind.Goals as goal

pub returns-in_default-clause-stands : goal.returns-in_default-clause-stands
returns-in_default-clause-stands c = no_size c.args.key.now c.args.text.now

pub returns-in_default-clause-finds : goal.returns-in_default-clause-finds
returns-in_default-clause-finds c = absent-finds c.args.key.now c.args.text.now (size_line c.args.key.now) (λ n. n < 2 ^ 64) decimal_text (size_optional c.args.key.now) c.in_default.ensures.finds

pub returns-in_err-_size-clause-finds : goal.returns-in_err-_size-clause-finds
returns-in_err-_size-clause-finds c = λ value rest is lacks same. absurd (
    other-fails c.args.key.now c.in-Some.digits.now c.args.text.now c.in-Some.rest.now (size_line c.args.key.now) (λ n. n < 2 ^ 64) decimal_text (size_optional c.args.key.now) c.in-Some.ensures.stands.0 c.in-Some.ensures.finds
    (λ n small shown. undone n (c.in_err-_size.ensures.finds n small shown)) value rest is lacks same)

pub returns-clause-stands : goal.returns-clause-stands
returns-clause-stands c =
    size_stands c.args.key.now c.in-Some.digits.now c.args.text.now c.in-Some.rest.now c.in_ok-_size._size c.requires c.in-Some.ensures.stands.0 c.in_ok-_size.ensures.stands.0 c.in_ok-_size.ensures.stands.1

pub returns-clause-finds : goal.returns-clause-finds
returns-clause-finds c =
    present-finds c.args.key.now c.in-Some.digits.now c.args.text.now c.in-Some.rest.now (size_line c.args.key.now) (λ n. n < 2 ^ 64) decimal_text (size_optional c.args.key.now) c.in-Some.ensures.stands.0 c.in-Some.ensures.finds
