-- What lines of `texmf-dist/ls-R` list, and which line can't stand where it does.
use Rattle.std.specs.Prelude.{ℕ, ◌+◌, ◌-◌, ◌==◌, ◌&&◌, ◌||◌, Bool, true, false, not, if◌then◌else◌, List, [], ◌∷◌, length, take, drop, bytes_eq, Option, Some, None, Result, Ok, Err, filter, nat_le, nat_eq}
use Rattle.std.specs.Option.{is_none, option_and_then}
use Rattle.std.specs.List.{list_any, ends_with}
use Rattle.std.specs.Ordering.{nat_cmp, is_lt}
use Rattle.std.specs.Cmp.Lexicographic.{slice_cmp}
use Rattle.std.specs.BTreeMap.{is_at}
use Rattle.std.specs.BTreeSet.{insert_key}
use Rattle.std.specs.Set.{remove_key}
use Rattle.tl_model.specs.Lines.{lines}
use Rattle.tl_path.specs.Path.{path_fault}
use Rattle.tl_path.specs.Components.{components}
use Rattle.tl_lsr.specs.Items.{folder, path_in}
use Rattle.tl_lsr.specs.Lists.{list_path, first_line}

-- what some lines have listed: the paths that have no section so far, in order; the directory of the last section, empty before the
-- first one; whether that section isn't ended, and its last name, empty before the first one
pub record Listed : Type 0 where
  pub files : List (List ℕ)
  pub dir : List ℕ
  pub is_open : Bool
  pub last : List ℕ

-- whether a text is a path
abbrev pub is_path : List ℕ → Bool
is_path text = is_none (path_fault text)

-- whether a path is among some
abbrev pub has : List (List ℕ) → List ℕ → Bool
has files path = list_any (is_at (slice_cmp nat_cmp path)) files

-- whether a text comes before another, by bytes
abbrev pub comes_before : List ℕ → List ℕ → Bool
comes_before a b = is_lt (slice_cmp nat_cmp a b)

-- what stands before a ':' at the end
abbrev pub before_colon : List ℕ → Option (List ℕ)
before_colon text = if bytes_eq (drop (length text - 1) text) (58 ∷ []) then Some (take (length text - 1) text) else None

-- what a heading says of its directory: what stands between "./" and ':'
abbrev pub headed : List ℕ → Option (List ℕ)
headed line = if bytes_eq (take 2 line) (46 ∷ 47 ∷ []) then before_colon (drop 2 line) else None

-- the directory of which a heading says this
abbrev pub dir_headed : List ℕ → List ℕ
dir_headed [] = folder
dir_headed (b ∷ rest) = path_in folder (b ∷ rest)

-- whether the file itself stands among the files, though a directory behind it begins
abbrev pub is_left_behind : List (List ℕ) → List ℕ → Bool
is_left_behind files dir = comes_before list_path dir && has files list_path

-- whether the section of a directory may begin: it has room for a name; its section comes behind the last one; it is the folder, or a name
-- that has no section so far; and the file itself is no file
abbrev pub may_begin : Listed → List ℕ → Bool
may_begin listed dir = is_path dir && (is_path (path_in dir (120 ∷ [])) && (comes_before listed.dir dir
    && ((bytes_eq dir folder || has listed.files dir) && not (is_left_behind listed.files dir))))

-- what is listed where a section begins
abbrev pub begun : Listed → List ℕ → Option Listed
begun listed dir = if may_begin listed dir
    then Some (record { files = remove_key (is_at (slice_cmp nat_cmp dir)) listed.files; dir = dir; is_open = true; last = [] }) else None

-- whether a name comes next in a section: it has no '/', and comes behind the last one
abbrev pub comes_next : Listed → List ℕ → Bool
comes_next listed name = not (list_any (λ b. b == 47) name) && comes_before listed.last name

-- whether a name may stand next in a section
abbrev pub may_follow : Listed → List ℕ → Bool
may_follow listed name = comes_next listed name && is_path (path_in listed.dir name)

-- what is listed with one name more
abbrev pub named : Listed → List ℕ → Option Listed
named listed name = if may_follow listed name
    then Some (record { files = insert_key (slice_cmp nat_cmp) listed.files (path_in listed.dir name); dir = listed.dir; is_open = listed.is_open; last = name }) else None

-- what is listed where a section ends: it has a name
abbrev pub ended : Listed → Option Listed
ended listed = if bytes_eq listed.last [] then None
    else Some (record { files = listed.files; dir = listed.dir; is_open = false; last = listed.last })

-- what is listed with a line in a section
abbrev pub with_name : Listed → List ℕ → Option Listed
with_name listed [] = ended listed
with_name listed (b ∷ name) = named listed (b ∷ name)

-- what is listed with a line between sections
abbrev pub with_heading : Listed → List ℕ → Option Listed
with_heading listed line = option_and_then (λ rest. begun listed (dir_headed rest)) (headed line)

-- what is listed with one line more behind the first two; None where it can't stand there
abbrev pub with_line : Listed → List ℕ → Option Listed
with_line listed line = if listed.is_open then with_name listed line else with_heading listed line

-- the same for a line that has so many before it
abbrev pub line_taken : ℕ → Listed → List ℕ → Option Listed
line_taken before listed line = if before == 0 then (if bytes_eq line first_line then Some listed else None)
    else (if before == 1 then (if bytes_eq line [] then Some listed else None) else with_line listed line)

-- what goes on from what is listed; or how many lines stand before the one that can't stand there
abbrev pub or_line : ℕ → (Listed → Result Listed ℕ) → Option Listed → Result Listed ℕ
or_line before go None = Err before
or_line before go (Some listed) = go listed

-- what further lines list, which have so many before them; or how many stand before the first one that can't stand there
unfoldable pub lines_taken : ℕ → Listed → List (List ℕ) → Result Listed ℕ
lines_taken before listed [] = Ok listed
lines_taken before listed (line ∷ others) = or_line before (λ next. lines_taken (before + 1) next others) (line_taken before listed line)

-- nothing is listed
abbrev pub nothing : Listed
nothing = record { files = []; dir = []; is_open = false; last = [] }

-- whether a text may end where so much is listed
abbrev pub may_end : Listed → Bool
may_end listed = not listed.is_open && not (has listed.files list_path)

-- the paths that are listed where a text of so many lines, whose last line has its end or not, lists so much; or the number of the first
-- line that can't stand there, which is the one behind the last where the text only lacks something
abbrev pub paths_or_line : Bool → ℕ → Result Listed ℕ → Result (List (List ℕ)) ℕ
paths_or_line is_whole count (Err before) = Err (before + 1)
paths_or_line is_whole count (Ok listed) = if is_whole && (nat_le 2 count && may_end listed) then Ok listed.files else Err (count + 1)

-- the paths that a text lists, or the number of its first line that can't stand there
abbrev pub lsr_read : List ℕ → Result (List (List ℕ)) ℕ
lsr_read text = paths_or_line (ends_with nat_eq text (10 ∷ [])) (length (lines text)) (lines_taken 0 nothing (lines text))

-- the last of some components, or of none this one
abbrev pub last_from : List ℕ → List (List ℕ) → List ℕ
last_from name [] = name
last_from name (next ∷ names) = last_from next names

-- the last component of a path
abbrev pub base_name : List ℕ → List ℕ
base_name path = last_from [] (components path)

-- the paths whose last component is this
abbrev pub paths_named : List ℕ → List (List ℕ) → List (List ℕ)
paths_named name paths = filter (λ path. bytes_eq (base_name path) name) paths
