-- The lines of marks.
use Rattle.std.specs.Prelude.{◌≡◌, ℕ, ◌+◌, ◌-◌, ◌==◌, ◌&&◌, ◌||◌, not, nat_le, nat_lt, if◌then◌else◌, Bool, true, false, List, [], ◌∷◌, codes, length, take, drop, Option, Some, None, is_none}
use Rattle.std.specs.List.{prefix_len}
use Rattle.std.specs.Str.{bytes_eq}
use Rattle.tl_model.specs.Decimal.{is_decimal, decimal_value}
use Rattle.tl_path.specs.Names.{is_name}
use Rattle.tl_path.specs.Path.{path_fault}
use Rattle.tl_path.specs.Reserved.{is_reserved}
use Rattle.tl_path.specs.Platforms.{AreListed}
use Rattle.tl_entry.specs.Rising.{comes_before}
use Rattle.tl_marks.specs.declared.marks.MarkedPath.{MarkedPath}
use Rattle.tl_marks.specs.declared.marks.MarkedPlatforms.{MarkedPlatforms}

-- marks as contracts see them: the counter, the platforms with their mark, and the paths with theirs
pub record MarksEntry : Type 0 where
  pub counter : ℕ
  pub platforms : Option MarkedPlatforms
  pub paths : List MarkedPath

-- ---- words that one space parts

-- how many bytes stand before the first space of a text
abbrev pub front_len : List ℕ → ℕ
front_len text = prefix_len (λ b. not (b == 32)) text

-- what stands before the first space of a text
abbrev pub before_space : List ℕ → List ℕ
before_space text = take (front_len text) text

-- what stands behind the first space of a text; None where it has none
abbrev pub behind_space : List ℕ → Option (List ℕ)
behind_space text = if nat_lt (front_len text) (length text) then Some (drop (front_len text + 1) text) else None

-- whether a text goes on as words that one space parts, without a tab; `opens` tells whether a word begins here
abbrev pub goes_on : Bool → List ℕ → Bool
goes_on opens [] = not opens
goes_on opens (b ∷ text) = not (b == 9 || opens && b == 32) && goes_on (b == 32) text

-- whether a text has words that one space parts, and no tab
abbrev pub is_spaced : List ℕ → Bool
is_spaced text = goes_on true text

-- ---- marks and paths

-- the number that a text writes, where it is below 2^32
abbrev pub number_of : List ℕ → Option ℕ
number_of text = if is_decimal text && nat_lt (decimal_value text) 4294967296 then Some (decimal_value text) else None

-- whether a number is a mark: from 1 to the counter
abbrev pub is_mark : ℕ → ℕ → Bool
is_mark counter mark = nat_le 1 mark && nat_le mark counter

-- the number that there is, where it is a mark
abbrev pub if_mark : ℕ → Option ℕ → Option ℕ
if_mark counter None = None
if_mark counter (Some mark) = if is_mark counter mark then Some mark else None

-- the mark that a text writes
abbrev pub mark_of : ℕ → List ℕ → Option ℕ
mark_of counter text = if_mark counter (number_of text)

-- where the sources stand, and how their names end
abbrev pub source_front : List ℕ
source_front = codes "tlpkg/tlpsrc/"

abbrev pub source_end : List ℕ
source_end = codes ".tlpsrc"

-- whether a path is that of a package's source
abbrev pub is_source_path : List ℕ → Bool
is_source_path path =
    let name = drop 13 path in
    bytes_eq (take 13 path) source_front && (bytes_eq (drop (length name - 7) name) source_end && is_name (take (length name - 7) name))

-- whether a path may have a mark: it isn't reserved, or is that of a source
abbrev pub may_be_marked : List ℕ → Bool
may_be_marked path = not (is_reserved path) || is_source_path path

-- a path that may have a mark
abbrev pub path_of : List ℕ → Option (List ℕ)
path_of text = if is_none (path_fault text) && may_be_marked text then Some text else None

-- ---- what each line says

-- the counter that the first line states
abbrev pub counter_in : Option (List ℕ) → List ℕ → Option ℕ
counter_in None word = None
counter_in (Some text) word = if bytes_eq word (codes "counter") then number_of text else None

-- the counter of a line `counter N`
abbrev pub counter_of : List ℕ → Option ℕ
counter_of line = counter_in (behind_space line) (before_space line)

-- whether a marked path lives, from the word of its line
abbrev pub lives_of : List ℕ → Option Bool
lives_of word = if bytes_eq word (codes "lives") then Some true else if bytes_eq word (codes "gone") then Some false else None

-- a marked path, where each of its parts stands in its line
abbrev pub marked : Option Bool → Option ℕ → Option (List ℕ) → Option MarkedPath
marked (Some lives) (Some mark) (Some path) = Some (record { lives = lives; mark = mark; path = path })
marked lives mark path = None

-- the marked path of a line, whose word and mark are cut off
abbrev pub path_behind_mark : ℕ → List ℕ → List ℕ → Option (List ℕ) → Option MarkedPath
path_behind_mark counter word mark None = None
path_behind_mark counter word mark (Some path) = marked (lives_of word) (mark_of counter mark) (path_of path)

-- the marked path of a line, whose word is cut off
abbrev pub path_behind : ℕ → List ℕ → Option (List ℕ) → Option MarkedPath
path_behind counter word None = None
path_behind counter word (Some rest) = path_behind_mark counter word (before_space rest) (behind_space rest)

-- the marked path of a line `lives MARK PATH` or `gone MARK PATH`
abbrev pub path_in : ℕ → List ℕ → Option MarkedPath
path_in counter line = path_behind counter (before_space line) (behind_space line)

-- whether a line begins with the word `platforms`
abbrev pub is_platforms_line : List ℕ → Bool
is_platforms_line line = bytes_eq (before_space line) (codes "platforms")

-- the platforms that stand behind the mark of a line: none, or words that one space parts, as they list
abbrev pub ArePlatformsOf : Option (List ℕ) → List (List ℕ) → Type 0
ArePlatformsOf None names = names ≡ []
ArePlatformsOf (Some text) names = (is_spaced text ≡ true) × AreListed text names

-- a line's mark and platforms stand in its text behind the word
abbrev pub AreMarked : ℕ → Option (List ℕ) → MarkedPlatforms → Type 0
AreMarked counter None marked = ⊥
AreMarked counter (Some rest) marked = (mark_of counter (before_space rest) ≡ Some marked.mark) × ArePlatformsOf (behind_space rest) marked.platforms

-- the mark and the platforms of a line `platforms MARK P1 P2 ..`
abbrev pub SaysPlatforms : ℕ → List ℕ → MarkedPlatforms → Type 0
SaysPlatforms counter line marked = AreMarked counter (behind_space line) marked

-- whether a path may follow marked paths: it is greater than the last one
abbrev pub may_follow : List MarkedPath → List ℕ → Bool
may_follow [] path = true
may_follow (before ∷ []) path = comes_before before.path path
may_follow (before ∷ next ∷ others) path = may_follow (next ∷ others) path
