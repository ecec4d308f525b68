-- How the records of a body are spelt.
use Rattle.std.specs.Prelude.{◌≡◌, ◌<◌, ℕ, List, [], ◌∷◌, ◌++◌}
use Rattle.std.specs.List.{AllByRecursion}
use Rattle.tl_journal_text.specs.Records.{text_of}
use Rattle.tl_journal_text.specs.Body.{Next, Ends, Faulty, Takes}

-- each number is one of a byte
abbrev pub IsBytes : List ℕ → Type 0
IsBytes text = AllByRecursion (λ b. b < 256) text

-- a text is the end, or what stands at its front with the rest
abbrev pub IsText : List ℕ → Next → Type 0
IsText text Ends = text ≡ 69 ∷ []
IsText text (Faulty place) = Unit {0}
IsText text (Takes r rest) = text ≡ text_of r ++ rest
