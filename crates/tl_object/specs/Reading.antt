-- The reading of an entry: its lines in groups, or its first bad line.
use Rattle.std.specs.Prelude.{◌≡◌, ℕ, Bool, ◌||◌, if◌then◌else◌, List, [], ◌∷◌, ◌++◌, codes, Option, Some, None, is_some, unwrap_or, Result, Ok, Err}
use Rattle.std.specs.Str.{bytes_eq}
use Rattle.tl_object.specs.Content.{content}
use Rattle.tl_object.specs.Cuts.{cut}
use Rattle.tl_entry.specs.Parts.{FileEntry}
use Rattle.tl_entry.specs.Rising.{insert_by, has_key}
use Rattle.tl_object.specs.Values.{◌>>=◌}
use Rattle.tl_object.specs.Grammar.{line_value}
use Rattle.tl_object.specs.Groups.{Group, object_of, is_repeated, only, name_of}
use Rattle.tl_object.specs.declared.fault.LineKind.{LineKind}
use Rattle.tl_object.specs.declared.fault.LineKind.TheVariants as kinds
use Rattle.tl_object.specs.declared.fault.ObjectError.{ObjectError}
use Rattle.tl_object.specs.declared.fault.ObjectError.TheVariants as errors
use Rattle.tl_object.specs.declared.key.Part.TheVariants.{Run, Doc, Src}
use Rattle.tl_object.specs.declared.head.Head.{Head}
use Rattle.tl_object.specs.declared.head.Head.TheVariants as heads
use Rattle.tl_object.specs.Line.{Line}
use Rattle.tl_object.specs.Line as lines
use Rattle.tl_entry.specs.declared.object.Object.{Object}

-- whether lines of files may follow a line, and whether they may state details and a language
pub data Place : Type 0 where
  Nowhere : Place
  Plain : Place
  Marked : Place

-- which lines of files may follow a line
abbrev pub place_of : Head → Place
place_of (heads.Files Doc blocks) = Marked
place_of (heads.Files Run blocks) = Plain
place_of (heads.Files Src blocks) = Plain
place_of (heads.Binfiles platform blocks) = Plain
place_of other = Nowhere

-- some files and one more, whose path isn't among theirs
abbrev pub one_more : List FileEntry → FileEntry → Result (List FileEntry) LineKind
one_more files file =
    if has_key (λ (f : FileEntry). f.path) file.path files then Err kinds.Repeated
    else Ok (insert_by (λ (f : FileEntry). f.path) file files)

-- the files of a section and one more, where the section may have it
abbrev pub placed : Place → List FileEntry → FileEntry → Result (List FileEntry) LineKind
placed Nowhere files file = Err kinds.File
placed Plain files file = if is_some file.details || is_some file.language then Err kinds.File else one_more files file
placed Marked files file = one_more files file

-- some groups, and a file that belongs to the last one
abbrev pub with_file : List Group → FileEntry → Result (List Group) LineKind
with_file [] file = Err kinds.File
with_file (group ∷ []) file = placed (place_of group.head) group.files file >>= λ files. Ok (record group { files = files } ∷ [])
with_file (group ∷ next ∷ others) file = with_file (next ∷ others) file >>= λ more. Ok (group ∷ more)

-- some groups, and what one more line says
abbrev pub with_line : List Group → Line → Result (List Group) LineKind
with_line groups (lines.Head head) =
    if is_repeated groups head then Err kinds.Repeated else Ok (groups ++ record { head = head; files = [] } ∷ [])
with_line groups (lines.File file) = with_file groups file

-- whether the key of a line is `name`
abbrev pub names : List ℕ → Option (List ℕ × List ℕ) → Bool
names line None = bytes_eq line (codes "name")
names line (Some parts) = bytes_eq parts.0 (codes "name")

-- the group of an entry's first line
abbrev pub named : Line → Result (List Group) LineKind
named (lines.Head (heads.Name name)) = Ok (record { head = heads.Name name; files = [] } ∷ [])
named other = Err kinds.Missing

-- the groups of some lines and one more, or the fault of that one
abbrev pub next_groups : List Group → List ℕ → Result (List Group) LineKind
next_groups [] line = if names line (cut 32 line) then line_value line >>= named else Err kinds.Missing
next_groups (group ∷ others) line = line_value line >>= with_line (group ∷ others)

-- what follows on a line with this number, or its fault
abbrev pub at_line : ℕ → Result (List Group) LineKind → (List Group → Result (List Group) (ℕ × LineKind)) → Result (List Group) (ℕ × LineKind)
at_line number (Ok groups) next = next groups
at_line number (Err kind) next = Err (number, kind)

-- the groups of some lines behind those of the lines before them, or the number of the first bad line with its first fault
abbrev pub reading : List Group → List (ℕ × List ℕ) → Result (List Group) (ℕ × LineKind)
reading groups [] = Ok groups
reading groups (line ∷ rest) = at_line line.0 (next_groups groups line.1) (λ more. reading more rest)

-- the groups of an entry; where no line counts, its name is missing at line 1
abbrev pub entry_groups : List (ℕ × List ℕ) → Result (List Group) (ℕ × LineKind)
entry_groups [] = Err (1, kinds.Missing)
entry_groups (line ∷ rest) = reading [] (line ∷ rest)

-- the entry that groups say, or the fault that came in their place
abbrev pub as_object : Result (List Group) (ℕ × LineKind) → Result Object (ℕ × LineKind)
as_object (Ok groups) = Ok (object_of groups)
as_object (Err fault) = Err fault

-- the entry of a text, or the number of its first bad line with that line's first fault
abbrev pub entry_of : List ℕ → Result Object (ℕ × LineKind)
entry_of text = as_object (entry_groups (content 0 text))

-- the name of a line with this number, or the fault of that line
abbrev pub name_at : ℕ → Result (List Group) LineKind → Result (ℕ × List ℕ) (ℕ × LineKind)
name_at number (Ok groups) = Ok (number, unwrap_or (only name_of groups) [])
name_at number (Err kind) = Err (number, kind)

-- the name of an entry and the number of its line, or the fault of that line
abbrev pub first_name : List (ℕ × List ℕ) → Result (ℕ × List ℕ) (ℕ × LineKind)
first_name [] = Err (1, kinds.Missing)
first_name (line ∷ rest) = name_at line.0 (next_groups [] line.1)

-- a fault that a reader answered is that of the reading; want of memory says nothing
abbrev pub FailsAt : {A : Type 0} → ObjectError → Result A (ℕ × LineKind) → Type 0
FailsAt errors.NoMemory read = Unit {0}
FailsAt (errors.BadObject line kind) read = read ≡ Err (line, kind)

-- what a reader answered is the reading, unless memory ran out
abbrev pub GivesAt : {A : Type 0} → Result A ObjectError → Result A (ℕ × LineKind) → Type 0
GivesAt (Ok x) read = read ≡ Ok x
GivesAt (Err e) read = FailsAt e read
