-- What it means that the text of a source reads as the source again.
use Rattle.std.specs.Prelude.{◌≡◌, ℕ, List, map, Ok}
use Rattle.tl_srctext.specs.Reading.{source_of}
use Rattle.tl_srctext.specs.declared.pattern.SourcePattern.{SourcePattern}
use Rattle.tl_srctext.specs.declared.fields.SourceFields.{SourceFields}

-- some patterns without the numbers of their lines
abbrev pub unplaced : List SourcePattern → List SourcePattern
unplaced patterns = map (λ (p : SourcePattern). record p { line = 0 }) patterns

-- a source without the numbers of its patterns' lines
abbrev pub less_lines : SourceFields → SourceFields
less_lines s = record s { run = unplaced s.run; src = unplaced s.src; doc = unplaced s.doc; bin = unplaced s.bin }

-- a text reads as a source that is this one but for line numbers
pub record ReadsAgain (s : SourceFields) (text : List ℕ) : Type 0 where
  pub read : SourceFields
  pub reads : source_of s.name text ≡ Ok read
  pub same : less_lines read ≡ less_lines s
