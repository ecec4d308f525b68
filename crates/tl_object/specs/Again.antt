-- What it means that the text of an entry reads as the entry again.
use Rattle.std.specs.Prelude.{◌≡◌, ℕ, ◌+◌, ◌<◌, ◌==◌, false, List, [], ◌∷◌, length, Ok}
use Rattle.std.specs.List.{AllByRecursion}
use Rattle.tl_model.specs.Lines.{IsLine, text_of}
use Rattle.tl_object.specs.Content.{is_comment}
use Rattle.tl_object.specs.Reading.{as_object, entry_groups, first_name}
use Rattle.tl_object.specs.Writing.{object_text}
use Rattle.tl_entry.specs.declared.object.Object.{Object}

-- some lines with their numbers, where this many lines stand before them
abbrev pub counted : ℕ → List (List ℕ) → List (ℕ × List ℕ)
counted before [] = []
counted before (line ∷ others) = (before + 1, line) ∷ counted (before + 1) others

-- a line that counts and isn't empty, without its end
pub record IsFull (line : List ℕ) : Type 0 where
  pub ended : IsLine line
  pub counts : is_comment line ≡ false
  pub full : (length line == 0) ≡ false

-- the text of an entry is lines that count, none of them empty; they read as the entry wherever they stand, and the first
-- of them as its name
pub record ReadsAgain (o : Object) : Type 0 where
  pub lines : List (List ℕ)
  pub text : object_text o ≡ text_of lines
  pub each : AllByRecursion IsFull lines
  pub some : 0 < length lines
  pub named : (before : ℕ) → first_name (counted before lines) ≡ Ok (before + 1, o.name)
  pub same : (before : ℕ) → as_object (entry_groups (counted before lines)) ≡ Ok o
