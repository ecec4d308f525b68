use Rattle.tl_written.proofs.LineLemmas.{some_more, key_behind, key_lacks, space_lacks, value_behind}
use Rattle.tl_written.proofs.lines.keyed.Goals as goal

pub returns-in_err-behind-clause-finds : goal.returns-in_err-behind-clause-finds
returns-in_err-behind-clause-finds c = λ value rest is same. absurd (key_lacks c.args.key.now value c.args.text.now rest c.in_err-behind.ensures.none same)

pub returns-in_err-behind-2-clause-finds : goal.returns-in_err-behind-2-clause-finds
returns-in_err-behind-2-clause-finds c = λ value rest is same.
    absurd (space_lacks c.args.key.now value c.args.text.now c.in_ok-behind.field-0.now rest c.in_ok-behind.ensures.stands c.in_err-behind-2.ensures.none same)

pub returns-clause-stands : goal.returns-clause-stands
returns-clause-stands c =
    some_more _ _ c.line_behind.result
    (λ parts is. (key_behind c.args.key.now parts.0.now c.args.text.now c.in_ok-behind.field-0.now c.in_ok-behind-2.field-0.now parts.1.now c.in_ok-behind.ensures.stands c.in_ok-behind-2.ensures.stands is.0, is.1))
    c.line_behind.ensures.stands

pub returns-clause-finds : goal.returns-clause-finds
returns-clause-finds c = λ value rest is same.
    c.line_behind.ensures.finds value rest is
    (value_behind c.args.key.now value c.args.text.now c.in_ok-behind.field-0.now c.in_ok-behind-2.field-0.now rest c.in_ok-behind.ensures.stands c.in_ok-behind-2.ensures.stands same)
