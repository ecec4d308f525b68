use Rattle.std.proofs.Common.{◌≡◌, drop}
use Rattle.tl_model.specs.Decimal.{decimal_after, decimal_value}
use Rattle.tl_text.proofs.number.decimal_u64.Given as goal

abbrev pub invariant-loop-digit : goal.invariant-loop-digit
invariant-loop-digit l = decimal_after l.value (drop l.digit-index l.text) ≡ decimal_value l.text
