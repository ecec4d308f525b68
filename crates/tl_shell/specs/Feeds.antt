-- The lines of an input within their limits.
use Rattle.std.specs.Prelude.{◌≡◌, ℕ, ◌+◌, ◌≤◌, min, nat_lt, ◌&&◌, not, Bool, true, false, if◌then◌else◌, List, [], ◌∷◌, ◌++◌, length, Option, Some, None, refl}
use Rattle.std.specs.Coded.{Coded, code_by, coded×, coded_ℕ, coded_list}
use Rattle.tl_model.specs.Devices.{SourceSeen}
use Rattle.tl_model.specs.Lines.{lines, IsLine}
use Rattle.tl_model.specs.Seen.{Told}
use Rattle.tl_kind.specs.Quantities.{limit_of}
use Rattle.tl_kind.specs.declared.quantity.What.{What}
use Rattle.tl_kind.specs.declared.quantity.What.TheVariants.{Line, Input}
use Rattle.tl_shell.specs.declared.error.FeedError.{FeedError}
use Rattle.tl_shell.specs.declared.error.FeedError.TheVariants.{TooLarge, InputFault, NoMemory}

-- a feed: the bytes that it has read ahead, and how many bytes the lines before took with their ends
pub record Feeding : Type 0 where
  pub ahead : List ℕ
  pub taken : ℕ

-- by which a feed can be the value of a type
abbrev pub feeding_code : Coded Feeding
feeding_code = code_by (List ℕ × ℕ) (coded× (coded_list coded_ℕ) coded_ℕ) (λ f. (f.ahead, f.taken)) (λ p. record { ahead = p.0; taken = p.1 }) (λ _. refl)

-- the input that no line has taken
abbrev pub left_behind : Feeding → SourceSeen → List ℕ
left_behind feed input = feed.ahead ++ input.left

-- which of the limits on a line and on the input is passed, at its place the line's first
abbrev pub first_limit : Bool → Bool → Option What
first_limit true of_input = Some Line
first_limit false true = Some Input
first_limit false false = None

-- the limit that a line of a size passes, if any, which takes so many bytes behind those of the lines before: that on a line where it is
-- passed at or before the place at which the one on the input is
abbrev pub passed_limit : ℕ → ℕ → ℕ → Option What
passed_limit start size used =
    first_limit (nat_lt (limit_of Line) size && not (nat_lt (limit_of Input) (start + limit_of Line))) (nat_lt (limit_of Input) (start + used))

-- how many bytes of a text its first line takes: its end with it, which the text's last line may lack
abbrev pub used_by : List ℕ → List ℕ → ℕ
used_by line text = min (length line + 1) (length text)

-- the limit that the first line of a text passes behind so many bytes of the lines before
abbrev pub limit_passed_in : ℕ → List ℕ → List (List ℕ) → Option What
limit_passed_in start text [] = None
limit_passed_in start text (line ∷ others) = passed_limit start (length line) (used_by line text)

-- a line was taken from the front of what was left, within its limits; or none is left
abbrev pub FeedsLine : Feeding → Feeding → List ℕ → List ℕ → Option (List ℕ) → Type 0
FeedsLine old new before after None = (before ≡ []) × (after ≡ []) × (new.taken ≡ old.taken)
FeedsLine old new before after (Some line) = (lines before ≡ line ∷ lines after) × (limit_passed_in old.taken before (lines before) ≡ None)
    × (new.taken ≡ old.taken + used_by line before) × (length before ≡ used_by line before + length after)

-- the call of the input failed
abbrev pub IsInputFault : FeedError → Type 0
IsInputFault error = error ≡ InputFault

-- which limit was passed, where one was; a fault of the input and want of memory pass none
abbrev pub IsLimitPassed : Option What → FeedError → Type 0
IsLimitPassed passed (TooLarge what limit) = (passed ≡ Some what) × (limit ≡ limit_of what)
IsLimitPassed passed InputFault = Unit {0}
IsLimitPassed passed NoMemory = Unit {0}

-- the same over an input that tells what is left
abbrev pub IsFeedFault : Bool → ℕ → List ℕ → FeedError → Type 0
IsFeedFault tells start text (TooLarge what limit) = (limit ≡ limit_of what) × Told tells (limit_passed_in start text (lines text) ≡ Some what)
IsFeedFault tells start text InputFault = Unit {0}
IsFeedFault tells start text NoMemory = Unit {0}

-- what stands before the first line end of a text, and whether there is one
pub record IsCutAt (text front : List ℕ) (ended : Bool) : Type 0 where
  pub line : IsLine front
  pub rest : List ℕ
  pub whole : text ≡ front ++ (if ended then 10 ∷ rest else [])

-- a part of a line was taken from what was read ahead, up to the line's end or all of it
pub record TakesPart (ended : Bool) (old new : Feeding) (before after : List ℕ) : Type 0 where
  pub part : List ℕ
  pub line : IsLine part
  pub after_is : after ≡ before ++ part
  pub ahead : old.ahead ≡ part ++ (if ended then 10 ∷ new.ahead else [])
  pub behind : ended ≡ false → new.ahead ≡ []
  pub taken : new.taken ≡ old.taken
  pub within : passed_limit old.taken (length after) (length after + (if ended then 1 else 0)) ≡ None

-- with the part of a line that was read ahead, up to its end or all of it, the line passes a limit
pub record PartPasses (old : Feeding) (before : List ℕ) (what : What) : Type 0 where
  pub start : old.taken ≤ limit_of Input
  pub part : List ℕ
  pub line : IsLine part
  pub ended : Bool
  pub rest : List ℕ
  pub ahead : old.ahead ≡ part ++ (if ended then 10 ∷ rest else [])
  pub passed : passed_limit old.taken (length (before ++ part)) (length (before ++ part) + (if ended then 1 else 0)) ≡ Some what

-- the same of an error
abbrev pub IsPartPassed : Feeding → List ℕ → FeedError → Type 0
IsPartPassed old before (TooLarge what limit) = (limit ≡ limit_of what) × PartPasses old before what
IsPartPassed old before InputFault = ⊥
IsPartPassed old before NoMemory = Unit {0}
