-- The marks of a tree, by what their text says.
use Rattle.std.specs.Prelude.{ℕ, ◌&&◌, nat_lt, if◌then◌else◌, Bool, true, false, List, [], ◌∷◌, codes, length, Option, Some, None, Result, Ok, Err}
use Rattle.tl_model.specs.Lines.{lines}
use Rattle.tl_model.specs.Volume.{Name, Volume, at}
use Rattle.tl_model.specs.Words.{fields}
use Rattle.tl_kind.specs.Quantities.{limit_of}
use Rattle.tl_kind.specs.declared.quantity.What.TheVariants.{Marks}
use Rattle.tl_entry.specs.FilePaths.{rising_of}
use Rattle.tl_db.specs.Options.{are_platforms}
use Rattle.tl_marks.specs.Form.{MarksEntry, before_space, behind_space, is_spaced, mark_of, counter_of, is_platforms_line}
use Rattle.tl_marks.specs.Reading.{paths_in}
use Rattle.tl_marks.specs.declared.marks.MarkedPath.{MarkedPath}
use Rattle.tl_marks.specs.declared.marks.MarkedPlatforms.{MarkedPlatforms}
use Rattle.tl_master.specs.declared.error.MasterError.{MasterError}
use Rattle.tl_master.specs.declared.error.MasterError.TheVariants.{BadMarks, TooLarge}

-- where the marks of a tree stand
abbrev pub marks_path : Name
marks_path = codes "tlpkg/marks"

-- the marks of a tree that has no file of them
abbrev pub no_marks : MarksEntry
no_marks = record { counter = 0; platforms = None; paths = [] }

-- the platforms that stand behind the mark of a line, in the order of their bytes: none, or words that one space parts; None where these
-- aren't platforms, or one stands twice, or there are too many
abbrev pub platforms_of : Option (List ℕ) → Option (List (List ℕ))
platforms_of None = Some []
platforms_of (Some text) = if is_spaced text && are_platforms (fields text) then Some (rising_of (fields text)) else None

-- platforms with their mark, where a line has both
abbrev pub with_mark : Option ℕ → Option (List (List ℕ)) → Option MarkedPlatforms
with_mark (Some mark) (Some platforms) = Some (record { mark = mark; platforms = platforms })
with_mark mark platforms = None

-- the platforms of a line, whose word is cut off
abbrev pub platforms_behind : ℕ → Option (List ℕ) → Option MarkedPlatforms
platforms_behind counter None = None
platforms_behind counter (Some rest) = with_mark (mark_of counter (before_space rest)) (platforms_of (behind_space rest))

-- the platforms of a line `platforms MARK P1 P2 ..`, with their mark
abbrev pub platforms_in : ℕ → List ℕ → Option MarkedPlatforms
platforms_in counter line = platforms_behind counter (behind_space line)

-- marks with these parts, where the lines of their paths read
abbrev pub marks_with : ℕ → Option MarkedPlatforms → Result (List MarkedPath) ℕ → Result MarksEntry ℕ
marks_with counter platforms (Ok paths) = Ok (record { counter = counter; platforms = platforms; paths = paths })
marks_with counter platforms (Err line) = Err line

-- marks whose second line is that of the platforms
abbrev pub behind_platforms : ℕ → Option MarkedPlatforms → List (List ℕ) → Result MarksEntry ℕ
behind_platforms counter None lines = Err 2
behind_platforms counter (Some platforms) lines = marks_with counter (Some platforms) (paths_in counter [] 3 lines)

-- marks whose second line is that of the platforms, or is not
abbrev pub from_second : Bool → ℕ → List ℕ → List (List ℕ) → Result MarksEntry ℕ
from_second true counter line lines = behind_platforms counter (platforms_in counter line) lines
from_second false counter line lines = marks_with counter None (paths_in counter [] 2 (line ∷ lines))

-- marks whose first line states a counter
abbrev pub behind_counter : ℕ → List (List ℕ) → Result MarksEntry ℕ
behind_counter counter [] = Ok (record { counter = counter; platforms = None; paths = [] })
behind_counter counter (line ∷ lines) = from_second (is_platforms_line line) counter line lines

-- the same, where it states one
abbrev pub from_counter : Option ℕ → List (List ℕ) → Result MarksEntry ℕ
from_counter None lines = Err 1
from_counter (Some counter) lines = behind_counter counter lines

-- the marks that some lines read as, or the number of the first bad line; where there is no line, the first one is
abbrev pub marks_of_lines : List (List ℕ) → Result MarksEntry ℕ
marks_of_lines [] = Err 1
marks_of_lines (line ∷ lines) = from_counter (counter_of line) lines

-- the marks that a text reads as, or the number of its first bad line
abbrev pub marks_of : List ℕ → Result MarksEntry ℕ
marks_of text = marks_of_lines (lines text)

-- marks, or the fault of a master whose marks don't read
abbrev pub marks_or_fault : Result MarksEntry ℕ → Result MarksEntry MasterError
marks_or_fault (Ok marks) = Ok marks
marks_or_fault (Err line) = Err (BadMarks line)

-- the marks that a file holds, none where it is absent; or what is wrong with it, its length first
abbrev pub marks_held : Option (List ℕ) → Result MarksEntry MasterError
marks_held None = Ok no_marks
marks_held (Some text) = if nat_lt (limit_of Marks) (length text) then Err (TooLarge Marks (limit_of Marks)) else marks_or_fault (marks_of text)

-- the marks of a tree
abbrev pub marks_in : Volume → Result MarksEntry MasterError
marks_in tree = marks_held (at tree marks_path)
