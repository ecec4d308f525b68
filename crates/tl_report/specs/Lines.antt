-- The lines of a report on what is wrong with a tree.
use Rattle.std.specs.Prelude.{◌≡◌, ℕ, false, List, ◌∷◌, ◌++◌, codes}
use Rattle.tl_model.specs.Lines.{IsLine, text_of}
use Rattle.tl_model.specs.Acks.{is_ack}
use Rattle.tl_entry.specs.FilePaths.{rising_of}
use Rattle.tl_report.specs.declared.lines.Finding.{Finding}
use Rattle.tl_report.specs.declared.lines.Finding.TheVariants.{Missing, Depends, Duplicate, Execute}

-- the word with which a line begins
abbrev pub word_of : Finding → List ℕ
word_of Missing = codes "missing"
word_of Depends = codes "depends"
word_of Duplicate = codes "duplicate"
word_of Execute = codes "execute"

-- the line that says what is wrong with something: the word, what it is, and what about it, with a space between two
abbrev pub line_of : Finding → List ℕ → List ℕ → List ℕ
line_of finding thing about = word_of finding ++ 32 ∷ thing ++ 32 ∷ about

-- bytes without a line end that are no acknowledgement
pub record IsReportLine (line : List ℕ) : Type 0 where
  pub whole : IsLine line
  pub other : is_ack line ≡ false

-- lines in the order of their bytes, each once, as a text. Since no part but the last has a space or a byte below it, this is the order
-- of their parts
abbrev pub in_order : List (List ℕ) → List ℕ
in_order lines = text_of (rising_of lines)
