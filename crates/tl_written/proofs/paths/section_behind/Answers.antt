use Rattle.std.proofs.Common.{◌≡◌, ℕ, Some}
use Rattle.std.proofs.lemmas.Option.{none-some}
use Rattle.tl_object.proofs.PlainLemmas.{line_of_number}
use Rattle.tl_model.specs.Decimal.{decimal_text}
use Rattle.tl_written.proofs.PathLemmas.{section_pieces, section_front, section_sized, section_digits}
use Rattle.tl_written.proofs.paths.section_behind.Goals as goal

-- a number that was found is the one that stands there
same_number : (n m : ℕ) → Some n ≡ Some m → n ≡ m
same_number n m same = cc

pub returns-in_err-sized-clause-finds : goal.returns-in_err-sized-clause-finds
returns-in_err-sized-clause-finds c = λ blocks rest small same.
    absurd (c.in_err-sized.ensures.none _ (section_front c.args.key.now c.args.text.now rest blocks same))

pub returns-in_err-behind-clause-finds : goal.returns-in_err-behind-clause-finds
returns-in_err-behind-clause-finds c = λ blocks rest small same.
    absurd (c.in_err-behind.ensures.none _ (section_sized c.args.key.now c.args.text.now c.in_ok-sized.sized.now rest blocks same c.in_ok-sized.ensures.stands))

pub returns-in_err-digits-clause-finds : goal.returns-in_err-digits-clause-finds
returns-in_err-digits-clause-finds c = λ blocks rest small same.
    absurd (c.in_err-digits.ensures.finds (decimal_text blocks) rest (line_of_number blocks small)
    (section_digits c.args.key.now c.args.text.now c.in_ok-sized.sized.now c.in_ok-behind.field-0.now rest blocks same c.in_ok-sized.ensures.stands c.in_ok-behind.ensures.stands))

pub returns-in_err-blocks-clause-finds : goal.returns-in_err-blocks-clause-finds
returns-in_err-blocks-clause-finds c = λ blocks rest small same.
    let cut = c.in_ok-digits.ensures.finds (decimal_text blocks) rest (line_of_number blocks small)
    (section_digits c.args.key.now c.args.text.now c.in_ok-sized.sized.now c.in_ok-behind.field-0.now rest blocks same c.in_ok-sized.ensures.stands c.in_ok-behind.ensures.stands) in
    absurd (none-some blocks (c.in_err-blocks.ensures.finds blocks small cut.0))

pub returns-clause-stands : goal.returns-clause-stands
returns-clause-stands c = (
  section_pieces c.args.key.now c.args.text.now c.in_ok-sized.sized.now c.in_ok-behind.field-0.now c.in_ok-digits.digits.now c.in_ok-digits.rest.now _
      c.in_ok-sized.ensures.stands c.in_ok-behind.ensures.stands c.in_ok-digits.ensures.stands.0 c.in_ok-blocks.ensures.stands.0,
  c.in_ok-blocks.ensures.stands.1,
)

pub returns-clause-finds : goal.returns-clause-finds
returns-clause-finds c = λ blocks rest small same.
    let cut = c.in_ok-digits.ensures.finds (decimal_text blocks) rest (line_of_number blocks small)
    (section_digits c.args.key.now c.args.text.now c.in_ok-sized.sized.now c.in_ok-behind.field-0.now rest blocks same c.in_ok-sized.ensures.stands c.in_ok-behind.ensures.stands) in
    (same_number _ blocks (c.in_ok-blocks.ensures.finds blocks small cut.0), cut.1)
