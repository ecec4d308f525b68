-- The lines of a source, where a backslash before a line's end joins a line with the next one.
use Rattle.std.specs.Prelude.{ℕ, ◌+◌, ◌-◌, ◌==◌, Bool, if◌then◌else◌, List, [], ◌∷◌, ◌++◌, length, take}
use Rattle.std.specs.List.{slice_index, slice_split}

-- a line and the number of its first line in the text
pub record Joined : Type 0 where
  pub number : ℕ
  pub text : List ℕ

-- the last byte of a text, and 0 where it has none
abbrev pub last_byte : List ℕ → ℕ
last_byte text = slice_index text (length text - 1)

-- a text without its last byte
abbrev pub less_last : List ℕ → List ℕ
less_last text = take (length text - 1) text

-- what stands before a line's end, without the carriage return directly before it
abbrev pub less_return : List ℕ → List ℕ
less_return line = if last_byte line == 13 then less_last line else line

-- whether a backslash stands directly before the line's end
abbrev pub is_continued : List ℕ → Bool
is_continued line = last_byte line == 92

-- the lines behind a text that is joined with the first of these parts: its number, and that of the first part. Each part but the last
-- one has a line's end behind it; what the last one ends with stays as it is
abbrev pub join_from : ℕ → List ℕ → ℕ → List (List ℕ) → List Joined
join_from number text next [] = []
join_from number text next (part ∷ []) = record { number = number; text = text ++ part } ∷ []
join_from number text next (part ∷ other ∷ others) = if is_continued (less_return part)
    then join_from number (text ++ less_last (less_return part)) (next + 1) (other ∷ others)
    else record { number = number; text = text ++ less_return part } ∷ join_from (next + 1) [] (next + 1) (other ∷ others)

-- the lines of a text, numbered from 1: a carriage return before a line's end is dropped, and then a backslash before it goes with it
abbrev pub joined_lines : List ℕ → List Joined
joined_lines text = join_from 1 [] 1 (slice_split (λ b. b == 10) text)
