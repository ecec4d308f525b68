-- The small forms that stand in an entry's lines.
use Rattle.std.specs.Prelude.{ℕ, ◌==◌, ◌&&◌, ◌||◌, not, nat_le, nat_lt, Bool, true, List, length, Option, Some, None}
use Rattle.std.specs.List.{list_all}
use Rattle.tl_path.specs.Bytes.{is_lower_or_digit}

-- a byte of a fact's key
abbrev pub is_fact_byte : ℕ → Bool
is_fact_byte b = is_lower_or_digit b || b == 45

-- whether bytes are a fact's key: 1 to 65,536 lower case letters, digits and `-`
abbrev pub is_fact_key : List ℕ → Bool
is_fact_key bytes = nat_lt 0 (length bytes) && (nat_le (length bytes) 65536 && list_all is_fact_byte bytes)

-- whether a text has no double quote
abbrev pub has_no_quote : List ℕ → Bool
has_no_quote bytes = list_all (λ b. not (b == 34)) bytes

-- whether a text that may be absent has no double quote
abbrev pub is_unquoted : Option (List ℕ) → Bool
is_unquoted None = true
is_unquoted (Some bytes) = has_no_quote bytes
