-- The values that the words of an execute give to keys.
use Rattle.std.specs.Prelude.{ℕ, ◌==◌, nat_eq, nat_lt, Bool, not, List, length, drop, filter, Option}
use Rattle.std.specs.List.{starts_with, find, slice_split, count_by}
use Rattle.std.specs.Option.{option_map}
use Rattle.tl_model.specs.Words.{is_full}

-- a value without its double quotes
abbrev pub unquoted : List ℕ → List ℕ
unquoted value = filter (λ b. not (b == 34)) value

-- whether a word begins with a key, which ends with its equals sign
abbrev pub has_key : List ℕ → List ℕ → Bool
has_key key word = starts_with nat_eq word key

-- what stands behind a key in a word that begins with it, without double quotes
abbrev pub value_in : List ℕ → List ℕ → List ℕ
value_in key word = unquoted (drop (length key) word)

-- the value of a key: that of the first word which begins with it
abbrev pub value_of : List ℕ → List (List ℕ) → Option (List ℕ)
value_of key words = option_map (value_in key) (find (has_key key) words)

-- whether two words begin with a key
abbrev pub is_repeated : List ℕ → List (List ℕ) → Bool
is_repeated key words = nat_lt 1 (count_by (has_key key) words)

-- the parts between commas that have a byte
abbrev pub parts : List ℕ → List (List ℕ)
parts value = filter is_full (slice_split (λ b. b == 44) value)
