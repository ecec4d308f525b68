-- The marks that a text reads as, and its first bad line.
use Rattle.std.specs.Prelude.{◌≡◌, ◌⊎◌, ℕ, ◌+◌, ◌<◌, if◌then◌else◌, Bool, true, false, List, [], ◌∷◌, ◌++◌, Option, Some, None, Result, Ok, Err, All, IfSome}
use Rattle.tl_model.specs.Lines.{lines}
use Rattle.tl_path.specs.Path.{IsPath}
use Rattle.tl_path.specs.Platforms.{ArePlatformsInOrder}
use Rattle.tl_entry.specs.Rising.{is_rising}
use Rattle.tl_marks.specs.declared.marks.MarkedPath.{MarkedPath}
use Rattle.tl_marks.specs.declared.marks.MarkedPlatforms.{MarkedPlatforms}
use Rattle.tl_marks.specs.declared.marks.MarksError.{MarksError}
use Rattle.tl_marks.specs.declared.marks.MarksError.TheVariants.{BadMarks, NoMemory}
use Rattle.tl_marks.specs.Form.{MarksEntry, is_mark, may_be_marked, counter_of, path_in, is_platforms_line, SaysPlatforms, may_follow}

-- a marked path, where it may follow others
abbrev pub following : List MarkedPath → Option MarkedPath → Option MarkedPath
following paths None = None
following paths (Some marked) = if may_follow paths marked.path then Some marked else None

-- what follows on a marked path behind others, or the number of its line
abbrev pub next_path : List MarkedPath → ℕ → Option MarkedPath → (List MarkedPath → Result (List MarkedPath) ℕ) → Result (List MarkedPath) ℕ
next_path paths number None next = Err number
next_path paths number (Some marked) next = next (paths ++ marked ∷ [])

-- the marked paths of some lines behind those of the lines before them, or the number of the first line that has none or whose
-- path isn't greater than the one before it; `number` is that of the first of these lines
abbrev pub paths_in : ℕ → List MarkedPath → ℕ → List (List ℕ) → Result (List MarkedPath) ℕ
paths_in counter paths number [] = Ok paths
paths_in counter paths number (line ∷ lines) = next_path paths number (following paths (path_in counter line)) (λ more. paths_in counter more (number + 1) lines)

-- a line and those behind it have these platforms and paths, where it is that of the platforms or is not
abbrev pub BehindLine : Bool → List ℕ → List (List ℕ) → MarksEntry → Type 0
BehindLine true line lines marks =
    (marked : MarkedPlatforms) × SaysPlatforms marks.counter line marked × (marks.platforms ≡ Some marked) × (paths_in marks.counter [] 3 lines ≡ Ok marks.paths)
BehindLine false line lines marks = (marks.platforms ≡ None) × (paths_in marks.counter [] 2 (line ∷ lines) ≡ Ok marks.paths)

-- the lines behind the counter's have these platforms and paths
abbrev pub BehindCounter : List (List ℕ) → MarksEntry → Type 0
BehindCounter [] marks = (marks.platforms ≡ None) × (marks.paths ≡ [])
BehindCounter (line ∷ lines) marks = BehindLine (is_platforms_line line) line lines marks

-- the marks that some lines read as: a counter, perhaps platforms, and paths
abbrev pub AreMarksOf : List (List ℕ) → MarksEntry → Type 0
AreMarksOf [] marks = ⊥
AreMarksOf (line ∷ lines) marks = (counter_of line ≡ Some marks.counter) × BehindCounter lines marks

-- the marks that a text reads as
abbrev pub ReadsMarks : List ℕ → MarksEntry → Type 0
ReadsMarks text marks = AreMarksOf (lines text) marks

-- the number of the first bad line from this one on, where it is that of the platforms or is not
abbrev pub IsBadFromLine : Bool → ℕ → List ℕ → List (List ℕ) → ℕ → Type 0
IsBadFromLine true counter line lines number =
    ((number ≡ 2) × ((marked : MarkedPlatforms) → ¬ (SaysPlatforms counter line marked)))
    ⊎ ((marked : MarkedPlatforms) × SaysPlatforms counter line marked × (paths_in counter [] 3 lines ≡ Err number))
IsBadFromLine false counter line lines number = paths_in counter [] 2 (line ∷ lines) ≡ Err number

-- the number of the first bad line behind the counter's
abbrev pub IsBadBehind : ℕ → List (List ℕ) → ℕ → Type 0
IsBadBehind counter [] number = ⊥
IsBadBehind counter (line ∷ lines) number = IsBadFromLine (is_platforms_line line) counter line lines number

-- the number of the first bad line, where the first one has this counter or none
abbrev pub IsBadFrom : Option ℕ → List (List ℕ) → ℕ → Type 0
IsBadFrom None lines number = number ≡ 1
IsBadFrom (Some counter) lines number = IsBadBehind counter lines number

-- the number of the first bad line; where there is none at all, the first one is
abbrev pub IsFirstBad : List (List ℕ) → ℕ → Type 0
IsFirstBad [] number = number ≡ 1
IsFirstBad (line ∷ lines) number = IsBadFrom (counter_of line) lines number

-- a fault that a reader answered is that of the reading; want of memory says nothing
abbrev pub Fails : MarksError → Result (List MarkedPath) ℕ → Type 0
Fails (BadMarks line) read = read ≡ Err line
Fails NoMemory read = Unit {0}

-- a fault that a reader answered is that of the lines behind the counter's; want of memory says nothing
abbrev pub FailsBehind : MarksError → ℕ → List (List ℕ) → Type 0
FailsBehind (BadMarks line) counter lines = IsBadBehind counter lines line
FailsBehind NoMemory counter lines = Unit {0}

-- the cause of each refusal of marks: the number of the first bad line, from 1; want of memory has none
abbrev pub IsMarksError : List ℕ → MarksError → Type 0
IsMarksError text (BadMarks line) = IsFirstBad (lines text) line
IsMarksError text NoMemory = Unit {0}

-- a marked path keeps the rules beside this counter
pub record IsMarkedPath (counter : ℕ) (marked : MarkedPath) : Type 0 where
  pub mark : is_mark counter marked.mark ≡ true
  pub path : IsPath marked.path
  pub allowed : may_be_marked marked.path ≡ true

-- marked platforms keep the rules beside this counter
pub record AreMarkedPlatforms (counter : ℕ) (marked : MarkedPlatforms) : Type 0 where
  pub mark : is_mark counter marked.mark ≡ true
  pub order : ArePlatformsInOrder marked.platforms

-- marks keep the rules: each mark is from 1 to the counter, and the paths may have one and rise
pub record AreMarks (marks : MarksEntry) : Type 0 where
  pub counter : marks.counter < 4294967296
  pub platforms : IfSome marks.platforms (AreMarkedPlatforms marks.counter)
  pub paths : All (IsMarkedPath marks.counter) marks.paths
  pub rising : is_rising (λ (marked : MarkedPath). marked.path) marks.paths ≡ true
