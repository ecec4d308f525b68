-- What spans of a text stand for.
use Rattle.std.specs.Prelude.{ℕ, ◌+◌, ◌≤◌, nat_lt, if◌then◌else◌, List, [], ◌∷◌, length, map, slice_range, All, AllPairs}
use Rattle.tl_text.specs.declared.span.Span.{Span}

-- the stretch of a text that a span stands for
abbrev pub stretch : List ℕ → Span → List ℕ
stretch text span = slice_range text span.start span.end

-- the stretches of a text that spans stand for
abbrev pub stretches : List ℕ → List Span → List (List ℕ)
stretches text spans = map (stretch text) spans

-- a span stands within a text of this length
abbrev pub IsWithin : ℕ → Span → Type 0
IsWithin len span = (span.start ≤ span.end) × (span.end ≤ len)

-- spans stand within a text of this length, in rising order and apart from one another
pub record AreRising (len : ℕ) (spans : List Span) : Type 0 where
  pub within : All (IsWithin len) spans
  pub apart : AllPairs (λ (before after : Span). before.end ≤ after.start) spans

-- the spans of some lines that stand one after the other from a place on, each followed by its end
abbrev pub line_spans : ℕ → List (List ℕ) → List Span
line_spans from [] = []
line_spans from (line ∷ others) = record { start = from; end = from + length line } ∷ line_spans (from + length line + 1) others

-- the span of a run, where it has a byte
abbrev pub run_spans : ℕ → ℕ → List Span
run_spans start end = if nat_lt start end then record { start = start; end = end } ∷ [] else []
