-- What a change has to be.
use Rattle.std.specs.Prelude.{◌≡◌, ℕ, Bool, true, false, not, List, [], ◌∷◌, map, filter}
use Rattle.std.specs.List.{flat_map, list_any, AllByRecursion, IsDistinct}
use Rattle.tl_model.specs.Volume.{Name, same_name}
use Rattle.tl_model.specs.Acks.{IsLabel}
use Rattle.tl_file.specs.declared.file.FileBytes.{FileBytes}
use Rattle.tl_journal_text.specs.Records.{is_outside}
use Rattle.tl_entry.specs.declared.object.Object.{Object}
use Rattle.tl_tree.specs.Staged.{has_name}
use Rattle.tl_tree.specs.Changes.{own, entries_after, made, names_of}
use Rattle.tl_tree.specs.declared.change.Part.{Part}
use Rattle.tl_tree.specs.declared.change.Part.TheVariants.{Put, Remove, Entry, Write, Erase, Stream, Later}

-- the names of the entries that a part of a change puts, removes or enters
abbrev pub spoken_names_by : Part → List Name
spoken_names_by (Put entry files) = entry.name ∷ []
spoken_names_by (Remove name) = name ∷ []
spoken_names_by (Entry entry) = entry.name ∷ []
spoken_names_by (Write path bytes) = []
spoken_names_by (Erase path) = []
spoken_names_by (Stream entry) = entry.name ∷ []
spoken_names_by (Later paths) = []

-- the names of the entries that a change puts, removes or enters
abbrev pub spoken_names : List Part → List Name
spoken_names parts = flat_map spoken_names_by parts

-- the name of the entry that a part of a change brings with its files
abbrev pub put_by : Part → List Name
put_by (Put entry files) = entry.name ∷ []
put_by (Remove name) = []
put_by (Entry entry) = []
put_by (Write path bytes) = []
put_by (Erase path) = []
put_by (Stream entry) = entry.name ∷ []
put_by (Later paths) = []

-- the names of the entries that a change brings with their files
abbrev pub put_names : List Part → List Name
put_names parts = flat_map put_by parts

-- the paths of some files
abbrev pub file_paths : List FileBytes → List Name
file_paths files = map (λ (file : FileBytes). file.path) files

-- the paths that a part of a change brings or erases, but for those that go with an old entry
abbrev pub spoken_paths_by : Part → List Name
spoken_paths_by (Put entry files) = file_paths files
spoken_paths_by (Remove name) = []
spoken_paths_by (Entry entry) = []
spoken_paths_by (Write path bytes) = path ∷ []
spoken_paths_by (Erase path) = path ∷ []
spoken_paths_by (Stream entry) = own entry
spoken_paths_by (Later paths) = paths

-- the paths that a change brings or erases, but for those that go with an old entry
abbrev pub spoken_paths : List Part → List Name
spoken_paths parts = flat_map spoken_paths_by parts

-- the paths that a part of a change writes or erases beside the files of entries
abbrev pub loose_paths_by : Part → List Name
loose_paths_by (Put entry files) = []
loose_paths_by (Remove name) = []
loose_paths_by (Entry entry) = []
loose_paths_by (Write path bytes) = path ∷ []
loose_paths_by (Erase path) = path ∷ []
loose_paths_by (Stream entry) = []
loose_paths_by (Later paths) = paths

-- the paths that a change writes or erases beside the files of entries
abbrev pub loose_paths : List Part → List Name
loose_paths parts = flat_map loose_paths_by parts

-- the files that a change keeps: those of each entry after it but of the entries that it brings with their files
abbrev pub kept_paths : List Object → List Part → List Name
kept_paths db parts = flat_map own (filter (λ (o : Object). not (has_name o.name (put_names parts))) (entries_after parts db))

-- the files of an entry put are its own
abbrev pub PutsOwn : Part → Type 0
PutsOwn (Put entry files) = (name : Name) → has_name name (file_paths files) ≡ has_name name (own entry)
PutsOwn (Remove name) = Unit {0}
PutsOwn (Entry entry) = Unit {0}
PutsOwn (Write path bytes) = Unit {0}
PutsOwn (Erase path) = Unit {0}
PutsOwn (Stream entry) = Unit {0}
PutsOwn (Later paths) = Unit {0}

-- a path is neither the journal's folder nor below it, nor the database or one of the five files made from it
pub record IsLoose (path : Name) : Type 0 where
  pub outside : is_outside path ≡ true
  pub unmade : has_name path (names_of (made [])) ≡ false

-- what a change is: no two parts speak of one entry, and no two of one path; the files of an entry put are its own, each once; no
-- path comes or is erased that an entry which stays has among its files; the paths beside the files of entries are loose; and its
-- label is one acknowledged line
pub record IsChange (db : List Object) (parts : List Part) (line : List ℕ) : Type 0 where
  pub names : IsDistinct same_name (spoken_names parts)
  pub paths : IsDistinct same_name (spoken_paths parts)
  pub puts : AllByRecursion PutsOwn parts
  pub keeps : AllByRecursion (λ path. has_name path (kept_paths db parts) ≡ false) (spoken_paths parts)
  pub beside : AllByRecursion IsLoose (loose_paths parts)
  pub label : IsLabel line

-- whether the bytes of a part of a change come later
abbrev pub is_later : Part → Bool
is_later (Put entry files) = false
is_later (Remove name) = false
is_later (Entry entry) = false
is_later (Write path bytes) = false
is_later (Erase path) = false
is_later (Stream entry) = true
is_later (Later paths) = true

-- whether bytes of a change come later
abbrev pub has_later : List Part → Bool
has_later parts = list_any is_later parts
