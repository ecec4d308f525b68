use Rattle.std.proofs.Common.{◌∙◌}
use Rattle.tl_pin.proofs.LineLemmas.{pin_read, pin_no_globs, pin_no_tag, pin_no_colon}
use Rattle.tl_pin.proofs.line.read_pin.Goals as goal

pub returns-in-Ok : goal.returns-in-Ok
returns-in-Ok c =
    pin_read c.args.line.now _ _ _ c.in-Some.ensures.0 c.in-Some.ensures.1 (c.in-Ok.ensures.0 ∙ c.trimmed.ensures) (rw c.trimmed.ensures at c.in-Ok.ensures.1) (c.in_ok-globs.ensures ∙ c.in-Some-2.is)

pub returns-in_default : goal.returns-in_default
returns-in_default c = pin_no_colon c.args.line.now c.in_default.ensures

pub returns-in_default-2 : goal.returns-in_default-2
returns-in_default-2 c =
    pin_no_globs c.args.line.now _ c.in-Some.ensures.0 c.in-Some.ensures.1 (c.in_ok-globs.ensures ∙ c.in_default-2.is)

pub returns-in-Err-NotTag : goal.returns-in-Err-NotTag
returns-in-Err-NotTag c =
    pin_no_tag c.args.line.now _ c.in-Some.ensures.0 c.in-Some.ensures.1 (rw (c.in-Err-NotTag.field-0-is, c.trimmed.ensures) at c.in-Err-NotTag.ensures)
