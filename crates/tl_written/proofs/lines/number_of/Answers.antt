use Rattle.std.proofs.Common.{Some, ◌∙◌, ap}
use Rattle.std.specs.Cmp.Lexicographic.{other_text}
use Rattle.tl_written.proofs.LineLemmas.{no_fault, number_same, shown_again}
use Rattle.tl_written.proofs.lines.number_of.Goals as goal

pub returns-in_default-clause-finds : goal.returns-in_default-clause-finds
returns-in_default-clause-finds c = λ n small shown. absurd (no_fault c.in_default.field-0 c.args.digits.now n c.in_default.ensures.fault small shown)

pub returns-then-eq-clause-finds : goal.returns-then-eq-clause-finds
returns-then-eq-clause-finds c = λ n small shown. ap Some (number_same c.in-Ok.number c.args.digits.now n c.in-Ok.ensures.number small shown)

pub returns-else-eq-clause-finds : goal.returns-else-eq-clause-finds
returns-else-eq-clause-finds c = λ n small shown.
    let same = number_same c.in-Ok.number c.args.digits.now n c.in-Ok.ensures.number small shown in
    absurd (other_text c.as_bytes.result.now c.args.digits.now c.if-eq.ensures (shown_again c.in-Ok.number c.as_bytes.result.now c.args.digits.now n (c.as_bytes.ensures.value ∙ c.format.ensures.text) same shown))
