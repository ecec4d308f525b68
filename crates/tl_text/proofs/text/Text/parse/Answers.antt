use Rattle.std.proofs.Common.{rules, arith, sym, ◌∙◌, subst}
use Rattle.std.specs.Prelude.{◌≡◌}
use Rattle.std.specs.String.{string_bytes}
use Rattle.tl_text.specs.Texts.{IsText, IsText-from, not_text-utf8}
use Rattle.tl_text.proofs.text.Text.parse.Goals as goal

pub invariant_of-result : goal.invariant_of-result
invariant_of-result c =
    let same : string_bytes c.in-Ok-from_str.text ≡ c.args.bytes.now = c.in-Ok-from_str.ensures.ok ∙ c.in-Ok.ensures.cases.0 in
    subst IsText (sym same) (IsText-from c.args.bytes.now c.in-Ok.ensures.cases.1 (sym c.is_one_line.ensures ∙ search rules) (omega arith))

pub returns-in-Ok-from_str-clause-text : goal.returns-in-Ok-from_str-clause-text
returns-in-Ok-from_str-clause-text c =
    (c.in-Ok-from_str.ensures.ok ∙ c.in-Ok.ensures.cases.0, IsText-from c.args.bytes.now c.in-Ok.ensures.cases.1 (sym c.is_one_line.ensures ∙ search rules) (omega arith))

pub returns-in-Err-clause-fault : goal.returns-in-Err-clause-fault
returns-in-Err-clause-fault c = not_text-utf8 c.args.bytes.now c.in-Err.ensures.cases.0
