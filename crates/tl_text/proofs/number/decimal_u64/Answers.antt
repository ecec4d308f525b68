use Rattle.std.proofs.Common.{refl, rules}
use Rattle.tl_text.proofs.Digits.{passes}
use Rattle.tl_text.proofs.number.decimal_u64.Goals as goal

pub returns-in-None-clause-fault : goal.returns-in-None-clause-fault
returns-in-None-clause-fault c =
    (search rules, passes c.loop-digit.value c.args.text.now c.loop-digit.digit-index _ c.loop-digit-test.true c.loop-digit.invariant c.in-None.ensures, refl)
