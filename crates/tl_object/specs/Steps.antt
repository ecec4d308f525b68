-- One step of the reading of an entry.
use Rattle.std.specs.Prelude.{◌≡◌, ◌⊎◌, ℕ, ◌+◌, ◌≤◌, ◌==◌, Bool, true, false, not, if◌then◌else◌, List, [], ◌∷◌, ◌++◌, length, None, Result, Ok, Err}
use Rattle.tl_entry.specs.Parts.{FileEntry}
use Rattle.tl_object.specs.Values.{◌>>=◌}
use Rattle.tl_object.specs.Grammar.{line_value, head_of_line}
use Rattle.tl_object.specs.Groups.{Group}
use Rattle.tl_object.specs.Content.{content, entry_lines, lines_left}
use Rattle.tl_object.specs.Reading.{Place, Nowhere, placed, place_of, reading, FailsAt}
use Rattle.tl_object.specs.declared.fault.LineKind.{LineKind}
use Rattle.tl_object.specs.declared.fault.LineKind.TheVariants as kinds
use Rattle.tl_object.specs.Known.{is_known}
use Rattle.tl_object.specs.declared.fault.LineFault.{LineFault}
use Rattle.tl_object.specs.declared.fault.LineFault.TheVariants as faults
use Rattle.tl_object.specs.declared.fault.ObjectError.{ObjectError}
use Rattle.tl_object.specs.declared.fault.ObjectError.TheVariants as errors
use Rattle.tl_object.specs.declared.builder.Builder.{Builder}
use Rattle.tl_object.specs.declared.head.Head.{Head}
use Rattle.tl_object.specs.Line.{Line}
use Rattle.tl_object.specs.Line as lines

-- the file of a path alone
abbrev pub bare : List ℕ → FileEntry
bare path = record { path = path; details = None; language = None }

-- whether a line is a file's
abbrev pub is_file_line : List ℕ → Bool
is_file_line [] = false
is_file_line (b ∷ line) = b == 32

-- the files of a section with that of a line; another line is no file
abbrev pub file_in : Place → List FileEntry → Line → Result (List FileEntry) LineKind
file_in place files (lines.File file) = placed place files file
file_in place files (lines.Head head) = Err kinds.File

-- the files of a section with that of one more line
abbrev pub file_step : Place → List FileEntry → List ℕ → Result (List FileEntry) LineKind
file_step place files line = line_value line >>= file_in place files

-- whether no line is left, or the first one is no file's
abbrev pub head_is_next : List (ℕ × List ℕ) → Bool
head_is_next [] = true
head_is_next (line ∷ rest) = not (is_file_line line.1)

-- the lines after a line with this head that belong to it, read as its files, and the lines behind them
abbrev pub IsSection : Place → List FileEntry → List (ℕ × List ℕ) → List (ℕ × List ℕ) → Type 0
IsSection place files before after =
    (groups : List Group) (head : Head) → place_of head ≡ place
    → reading (groups ++ record { head = head; files = [] } ∷ []) before ≡ reading (groups ++ record { head = head; files = files } ∷ []) after

-- the files of the lines at the front of a text, which stands behind this many lines, and the text behind those lines. The
-- next line is no file's, unless no line of a file may stand here
pub record AreRead (place : Place) (stops : Bool) (files : List FileEntry) (number : ℕ) (text : List ℕ) (after : ℕ) (rest : List ℕ) : Type 0 where
  pub section : IsSection place files (entry_lines stops (content number text)) (entry_lines stops (content after rest))
  pub next : (place ≡ Nowhere) ⊎ (head_is_next (entry_lines stops (content after rest)) ≡ true)
  pub left : lines_left stops (content number text) ≡ lines_left stops (content after rest)
  pub fits : after + length rest ≤ number + length text
  pub shorter : length rest ≤ length text

-- a fault is that of the reading of these lines, behind a line after which the files of a section stand
abbrev pub FilesFail : ObjectError → Place → List (ℕ × List ℕ) → Type 0
FilesFail e place before =
    (groups : List Group) (head : Head) → place_of head ≡ place → FailsAt e (reading (groups ++ record { head = head; files = [] } ∷ []) before)

-- what a line says, where it isn't known yet
abbrev pub head_in : Builder → Head → Result Head LineKind
head_in builder head = if is_known builder head then Err kinds.Repeated else Ok head

-- what a line says that is no file's and isn't known yet
abbrev pub head_step : Builder → List ℕ → Result Head LineKind
head_step builder line = head_of_line line >>= head_in builder

-- the fault of a line, with its number
abbrev pub fault_at : ℕ → LineFault → ObjectError
fault_at line faults.NoMemory = errors.NoMemory
fault_at line (faults.Bad kind) = errors.BadObject line kind
