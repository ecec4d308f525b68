-- Decimal numbers and their texts.
use Rattle.std.specs.Prelude.{◌≡◌, ℕ, ◌+◌, ◌-◌, ◌*◌, ◌^◌, ◌<◌, Bool, true, false, ◌&&◌, nat_lt, List, [], ◌∷◌, length}
use Rattle.std.specs.Fmt.{decimal}
use Rattle.std.specs.Char.{is_ascii_digit}
use Rattle.std.specs.List.{list_all}
use Rattle.std.proofs.Common.{◌∙◌, ◌≤◌, ap, refl, get_or, rules}
use Rattle.std.proofs.lemmas.Bool.{lt-ltb, ltb-true}
use Rattle.std.proofs.lemmas.Fmt.{decimal-digits_value, decimal_injective, length-decimal-le, digits_decimal, digits_value-decimal, decimal_nonempty}
use Rattle.std.proofs.lemmas.Str.Parse.{IsNumeralModel, numerals_by_fold}

-- the number that decimal digits stand for, after the number that stands before them
abbrev pub decimal_after : ℕ → List ℕ → ℕ
decimal_after before [] = before
decimal_after before (digit ∷ digits) = decimal_after (before * 10 + (digit - 48)) digits

-- the number that decimal digits stand for; leading zeros are read
abbrev pub decimal_value : List ℕ → ℕ
decimal_value digits = decimal_after 0 digits

-- whether a text is one or more decimal digits
abbrev pub is_decimal : List ℕ → Bool
is_decimal text = nat_lt 0 (length text) && list_all is_ascii_digit text

-- the text is one or more decimal digits
abbrev pub IsDecimal : List ℕ → Type 0
IsDecimal text = is_decimal text ≡ true

-- the digits of a number without leading zeros, as a number is printed
abbrev pub decimal_text : ℕ → List ℕ
decimal_text n = decimal n

pub decimal_model : IsNumeralModel (λ digits. list_all is_ascii_digit digits ≡ true) decimal_value
decimal_model = numerals_by_fold _ (search rules) decimal_after (search rules)

-- the printed text of a number is decimal
pub IsDecimal-decimal_text : (n : ℕ) → n < 2 ^ 64 → IsDecimal (decimal_text n)
IsDecimal-decimal_text n small =
    ap (λ t. t && list_all is_ascii_digit (decimal n)) (lt-ltb 0 (length (decimal n)) (decimal_nonempty n small)) ∙ digits_decimal decimal_model n small

-- the printed text of a number stands for it
pub decimal_value-decimal_text : (n : ℕ) → n < 2 ^ 64 → decimal_value (decimal_text n) ≡ n
decimal_value-decimal_text n small = digits_value-decimal decimal_model n small

-- the parts of being decimal
pub decimal_parts : (text : List ℕ) → IsDecimal text → (0 < length text) × (list_all is_ascii_digit text ≡ true)
decimal_parts text is = from_both (nat_lt 0 (length text)) (list_all is_ascii_digit text) is (λ some. ltb-true 0 (length text) some)
  where
    from_both : (a b : Bool) → (a && b) ≡ true → ((a ≡ true) → 0 < length text) → (0 < length text) × (b ≡ true)
    from_both true b is gives = (gives refl, is)
    from_both false b is gives = absurd (cc)

-- decimal digits without a leading zero, or the digit 0 alone, are the printed text of their number
pub decimal_text-decimal_value : (digits : List ℕ) → IsDecimal digits → (get_or digits 0 0 ≡ 48 → length digits ≡ 1) → decimal_value digits < 2 ^ 64 → decimal_text (decimal_value digits) ≡ digits
decimal_text-decimal_value digits is plain small =
    let parts = decimal_parts digits is in decimal-digits_value decimal_model digits parts.1 parts.0 plain small

-- a number's printed text has a digit at least, and no more than a bound of its size
pub length-decimal_text : (most n : ℕ) → 0 < most → n < 10 ^ most → n < 2 ^ 64 → length (decimal_text n) ≤ most
length-decimal_text most n some below small = length-decimal-le most n some below small

-- two numbers with one printed text are one
pub decimal_text-same : (m n : ℕ) → m < 2 ^ 64 → n < 2 ^ 64 → decimal_text m ≡ decimal_text n → m ≡ n
decimal_text-same m n = decimal_injective m n
