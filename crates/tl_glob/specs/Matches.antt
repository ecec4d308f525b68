-- The texts that a glob stands for.
use Rattle.std.specs.Prelude.{ℕ, ◌==◌, ◌||◌, ◌&&◌, Bool, true, false, if◌then◌else◌, List, [], ◌∷◌}
use Rattle.std.specs.List.{list_any}

-- whether a byte of a glob that is no `*` stands for a byte: `?` stands for each, every other one for itself
abbrev pub takes : ℕ → ℕ → Bool
takes part byte = part == 63 || part == byte

-- the ends of a text: itself, and what is left of it without its first byte, its first two, and so on
abbrev pub ends : List ℕ → List (List ℕ)
ends [] = [] ∷ []
ends (b ∷ text) = (b ∷ text) ∷ ends text

-- whether a part stands for a text's first byte, and the text behind it passes a test
abbrev pub takes_first : ℕ → (List ℕ → Bool) → List ℕ → Bool
takes_first part test [] = false
takes_first part test (byte ∷ text) = takes part byte && test text

-- whether a text has no byte
abbrev pub is_no_byte : List ℕ → Bool
is_no_byte [] = true
is_no_byte (byte ∷ text) = false

-- whether a glob stands for a text: `*` for any bytes, so that what is behind it stands for some end of the text; `?` for one byte;
-- every other byte for itself
abbrev pub is_match : List ℕ → List ℕ → Bool
is_match [] text = is_no_byte text
is_match (part ∷ glob) text = if part == 42 then list_any (is_match glob) (ends text) else takes_first part (is_match glob) text
