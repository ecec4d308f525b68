-- What the steps of reading give: a value, or a cause.
use Rattle.std.specs.Prelude.{◌≡◌, ℕ, ◌==◌, if◌then◌else◌, List, [], length, Option, Some, None, Result, Ok, Err, MatchResult}
use Rattle.std.specs.List.{slice_split}
use Rattle.tl_kind.specs.declared.kinds.SourceKind.{SourceKind}
use Rattle.tl_srctext.specs.Joined.{Joined, join_from}
use Rattle.tl_srctext.specs.Content.{line_content}
use Rattle.tl_srctext.specs.Line.{said_in}
use Rattle.tl_srctext.specs.Reading.{BadLine, with_said}
use Rattle.tl_srctext.specs.declared.fields.SourceFields.{SourceFields}
use Rattle.tl_srctext.specs.declared.line.Said.{Said}
use Rattle.tl_srctext.specs.declared.error.LineFault.{LineFault}
use Rattle.tl_srctext.specs.declared.error.LineFault.TheVariants as faults
use Rattle.tl_srctext.specs.declared.error.SourceError.{SourceError}
use Rattle.tl_srctext.specs.declared.error.SourceError.TheVariants as errors

-- a fault is that of a part of a line; want of memory has no cause in it
abbrev pub FailsBy : {A : Type 0} → Result A SourceKind → LineFault → Type 0
FailsBy found (faults.Bad kind) = found ≡ Err kind
FailsBy found faults.NoMemory = Unit {0}

-- a step gives what was found in a part of a line, or fails as that
abbrev pub FindsPart : {A : Type 0} → Result A LineFault → Result A SourceKind → Type 0
FindsPart result found = MatchResult result (λ x. found ≡ Ok x) (FailsBy found)

-- an error is that of some lines; want of memory has no cause in them
abbrev pub FailsAtLine : {A : Type 0} → Result A BadLine → SourceError → Type 0
FailsAtLine read (errors.BadSource line kind) = read ≡ Err (line, kind)
FailsAtLine read (errors.TooLarge what limit) = ⊥
FailsAtLine read errors.NoMemory = Unit {0}

-- the fault of a line with its number
abbrev pub line_error : ℕ → LineFault → SourceError
line_error line (faults.Bad kind) = errors.BadSource line kind
line_error line faults.NoMemory = errors.NoMemory

-- the lines of a text that stands behind others, the first of which has this number; none where the text before had no line's end
abbrev pub lines_from : ℕ → Option (List ℕ) → List Joined
lines_from number None = []
lines_from number (Some text) = join_from number [] number (slice_split (λ b. b == 10) text)

-- the fields with what was found in a line with this number, or how that is bad
abbrev pub with_found : SourceFields → ℕ → Result Said SourceKind → Result SourceFields BadLine
with_found s number (Ok said) = Ok (with_said s said)
with_found s number (Err kind) = Err (number, kind)

-- the fields with what a line with this number says, which is nothing where it is empty; or how it is bad
abbrev pub line_taken_in : List ℕ → ℕ → List ℕ → SourceFields → Result SourceFields BadLine
line_taken_in name number line s =
    if length (line_content line) == 0 then Ok s else with_found s number (said_in name number (line_content line))
