-- A text cut in two at a byte.
use Rattle.std.specs.Prelude.{ℕ, ◌==◌, if◌then◌else◌, List, [], ◌∷◌, Option, Some, None}

-- a byte in front of the first part of a cut
abbrev pub onto_front : ℕ → Option (List ℕ × List ℕ) → Option (List ℕ × List ℕ)
onto_front b None = None
onto_front b (Some parts) = Some (b ∷ parts.0, parts.1)

-- what stands before the first such byte of a text, and what stands after it; None where the text has none
abbrev pub cut : ℕ → List ℕ → Option (List ℕ × List ℕ)
cut at [] = None
cut at (b ∷ text) = if b == at then Some ([], text) else onto_front b (cut at text)
