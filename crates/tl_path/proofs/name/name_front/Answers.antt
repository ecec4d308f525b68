use Rattle.std.proofs.Common.{arith, sym, ◌∙◌, length, ◌<◌}
use Rattle.std.proofs.lemmas.Bool.Decides.{nat_tests}
use Rattle.tl_path.proofs.Words.{longest_front, no_front}
use Rattle.tl_path.proofs.name.name_front.Goals as goal
use Rattle.tl_path.proofs.name.name_front.Goals.{else-not-is_empty-via-then-not-is_empty+else-is_letter_or_digit, else-not-is_empty-via-else-not-is_empty}

pub returns-then-is_letter_or_digit : goal.returns-then-is_letter_or_digit
returns-then-is_letter_or_digit c =
    let some : 0 < length c.args.text.now = grind (arith, nat_tests) in
    rw (c.min.ensures, c.longest.ensures, c.leading.ensures)
    (longest_front c.args.text.now some (sym c.is_letter_or_digit.ensures ∙ c.if-is_letter_or_digit.true))

pub returns-else-not-is_empty : goal.returns-else-not-is_empty
returns-else-not-is_empty c = no_front c.args.text.now (λ some.
    elim c.else-not-is_empty.branch [
      | else-not-is_empty-via-then-not-is_empty+else-is_letter_or_digit w ↦ sym w.is_letter_or_digit.ensures ∙ w.if-is_letter_or_digit.false
      | else-not-is_empty-via-else-not-is_empty w ↦ absurd (grind (arith, nat_tests, some))
    ])
