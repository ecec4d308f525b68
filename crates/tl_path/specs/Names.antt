-- The forms of names, tags and platforms.
use Rattle.std.specs.Prelude.{ℕ, ◌<◌, ◌≤◌, ◌≡◌, ◌++◌, nat_le, ◌&&◌, Bool, true, List, length, take, slice_index}
use Rattle.std.specs.List.{list_all}
use Rattle.tl_path.specs.Bytes.{is_letter_or_digit, is_of_name, is_of_tag, is_lower_or_digit, is_of_platform}

-- a text of 1 to `most` bytes, of which the first passes one test and all pass another
abbrev pub is_word : (ℕ → Bool) → (ℕ → Bool) → ℕ → List ℕ → Bool
is_word first other most text = nat_le 1 (length text)
    && (nat_le (length text) most && (first (slice_index text 0) && list_all other text))

-- a name: 1 to 128 letters, digits, '.', '_', '-' and '+', the first a letter or digit
abbrev pub is_name : List ℕ → Bool
is_name text = is_word is_letter_or_digit is_of_name 128 text

-- a tag: 1 to 64 letters, digits, '_' and '-', the first a letter or digit
abbrev pub is_tag : List ℕ → Bool
is_tag text = is_word is_letter_or_digit is_of_tag 64 text

-- a platform: 1 to 32 lower case letters, digits, '_' and '-', the first a letter or digit
abbrev pub is_platform : List ℕ → Bool
is_platform text = is_word is_lower_or_digit is_of_platform 32 text

-- a front of some name
abbrev pub IsNameFront : List ℕ → Type 0
IsNameFront front = (rest : List ℕ) × (is_name (front ++ rest) ≡ true)

-- how long the longest front of a text is that is a front of some name too
pub record IsLongestNameFront (text : List ℕ) (n : ℕ) : Type 0 where
  pub within : n ≤ length text
  pub front : IsNameFront (take n text)
  pub longest : (m : ℕ) → n < m → m ≤ length text → ¬ (IsNameFront (take m text))
