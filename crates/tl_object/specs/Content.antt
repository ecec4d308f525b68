-- The lines of a text that count, with their numbers.
use Rattle.std.specs.Prelude.{ℕ, ◌+◌, ◌==◌, Bool, true, false, if◌then◌else◌, List, [], ◌∷◌, length, filter}
use Rattle.std.specs.List.{slice_split}
use Rattle.tl_model.specs.Lines.{lines}

-- whether a line is passed over: it begins with the byte `#`
abbrev pub is_comment : List ℕ → Bool
is_comment [] = false
is_comment (b ∷ line) = b == 35

-- some lines that count, each with its number, where this many lines stand before them
abbrev pub numbered : ℕ → List (List ℕ) → List (ℕ × List ℕ)
numbered before [] = []
numbered before (line ∷ others) =
    if is_comment line then numbered (before + 1) others else (before + 1, line) ∷ numbered (before + 1) others

-- the lines of a text that count, each with its number, where this many lines stand before the text
abbrev pub content : ℕ → List ℕ → List (ℕ × List ℕ)
content before text = numbered before (lines text)

-- the lines up to the first empty one
abbrev pub front : List (ℕ × List ℕ) → List (ℕ × List ℕ)
front [] = []
front (line ∷ others) = if length line.1 == 0 then [] else line ∷ front others

-- the lines behind the first empty one
abbrev pub behind : List (ℕ × List ℕ) → List (ℕ × List ℕ)
behind [] = []
behind (line ∷ others) = if length line.1 == 0 then others else behind others

-- the lines of an entry that ends at the text's end, or with the first empty line before it
abbrev pub entry_lines : Bool → List (ℕ × List ℕ) → List (ℕ × List ℕ)
entry_lines false lines = lines
entry_lines true lines = front lines

-- the lines behind an entry that ends with an empty line
abbrev pub lines_left : Bool → List (ℕ × List ℕ) → List (ℕ × List ℕ)
lines_left false lines = []
lines_left true lines = behind lines

-- whether a line is empty
abbrev pub is_empty_line : ℕ × List ℕ → Bool
is_empty_line line = length line.1 == 0

-- whether there is a line
abbrev pub is_full : List (ℕ × List ℕ) → Bool
is_full [] = false
is_full (line ∷ others) = true

-- the stretches of lines between empty ones, without those that have no line
abbrev pub stretches : List (ℕ × List ℕ) → List (List (ℕ × List ℕ))
stretches lines = filter is_full (slice_split is_empty_line lines)
