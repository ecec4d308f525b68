-- Where parts of words stand.
use Rattle.std.specs.Prelude.{ℕ, ◌≤◌, List, [], ◌∷◌, length, Option, Some, None}
use Rattle.tl_words.specs.Parts.{Part, given, plain}

-- an option's value, if there is one, stands at most so far
abbrev pub ValueWithin : ℕ → Option (ℕ × List ℕ) → Type 0
ValueWithin n None = Unit {0}
ValueWithin n (Some value) = value.0 ≤ n

-- parts stand at most so far
abbrev pub PartsWithin : ℕ → List Part → Type 0
PartsWithin n [] = Unit {0}
PartsWithin n (plain at word ∷ others) = (at ≤ n) × PartsWithin n others
PartsWithin n (given at option value ∷ others) = (at ≤ n) × (ValueWithin n value × PartsWithin n others)

-- parts stand at most at the number of some words
abbrev pub AreWithin : List (List ℕ) → List Part → Type 0
AreWithin words all = (n : ℕ) → length words ≤ n → PartsWithin n all
