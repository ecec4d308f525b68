-- The value of digits grows from the left.
use Rattle.std.proofs.Common.{◌≡◌, ℕ, ◌+◌, ◌-◌, ◌*◌, ◌<◌, ◌≤◌, ◌^◌, List, [], ◌∷◌, length, drop, get_or, arith, sym, ◌∙◌, ap}
use Rattle.std.proofs.lemmas.List.{drop_more}
use Rattle.tl_model.specs.Decimal.{decimal_after}

pub decimal_after-ge : (before : ℕ) (digits : List ℕ) → before ≤ decimal_after before digits
decimal_after-ge before [] = omega arith
decimal_after-ge before (digit ∷ digits) = let more : before * 10 + (digit - 48) ≤ decimal_after (before * 10 + (digit - 48)) digits = decimal_after-ge (before * 10 + (digit - 48)) digits in omega arith

-- one digit more
pub decimal_after-more : (before : ℕ) (text : List ℕ) (i : ℕ) → i < length text
    → decimal_after before (drop i text) ≡ decimal_after (before * 10 + (get_or text i 0 - 48)) (drop (i + 1) text)
decimal_after-more before text i within = ap (decimal_after before) (drop_more text i 0 within)

-- where one digit more passes 64 bits, the whole number does
pub passes : (before : ℕ) (text : List ℕ) (i total : ℕ) → i < length text → decimal_after before (drop i text) ≡ total
    → ¬ (before * 10 + (get_or text i 0 - 48) < 2 ^ 64) → 18446744073709551615 < total
passes before text i total within is over =
    let rises : before * 10 + (get_or text i 0 - 48) ≤ decimal_after (before * 10 + (get_or text i 0 - 48)) (drop (i + 1) text) = decimal_after-ge (before * 10 + (get_or text i 0 - 48)) (drop (i + 1) text) in
    let same : decimal_after (before * 10 + (get_or text i 0 - 48)) (drop (i + 1) text) ≡ total = sym (decimal_after-more before text i within) ∙ is in
    omega arith
