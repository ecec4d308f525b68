-- What a change makes of a tree.
use Rattle.std.specs.Prelude.{ℕ, Bool, true, false, not, if◌then◌else◌, List, [], ◌∷◌, ◌++◌, Option, Some, None, map, filter, codes}
use Rattle.std.specs.List.{flat_map, list_any}
use Rattle.std.specs.FinMap as finite
use Rattle.tl_model.specs.Volume.{Name, Volume}
use Rattle.tl_path.specs.Reserved.{is_reserved}
use Rattle.tl_file.specs.declared.file.FileBytes.{FileBytes}
use Rattle.tl_entry.specs.Parts.{FileEntry}
use Rattle.tl_entry.specs.Rising.{insert_by}
use Rattle.tl_entry.specs.declared.object.Object.{Object}
use Rattle.tl_entry.specs.declared.object.BinFiles.{BinFiles}
use Rattle.tl_db.specs.Entries.{entry_of, others}
use Rattle.tl_db.specs.Text.{db_text}
use Rattle.tl_config.specs.Databases.{updmap_of, fmtutil_of, langdat_of, langdef_of, langlua_of}
use Rattle.tl_tree.specs.Planted.{database}
use Rattle.tl_tree.specs.declared.change.Part.{Part}
use Rattle.tl_tree.specs.declared.change.Part.TheVariants.{Put, Remove, Entry, Write, Erase, Stream, Later}

-- the path of a file of an entry
abbrev pub path_of : FileEntry → Name
path_of file = file.path

-- the paths of an entry's binaries for one platform
abbrev pub bin_paths : BinFiles → List Name
bin_paths bin = bin.paths

-- the paths that an entry lists
abbrev pub listed : Object → List Name
listed entry = entry.run.paths ++ map path_of entry.doc.files ++ entry.src.paths ++ flat_map bin_paths entry.bin

-- the files of an entry: the paths that it lists and that aren't reserved
abbrev pub own : Object → List Name
own entry = filter (λ path. not (is_reserved path)) (listed entry)

-- the files of the entry with a name, if an entry has it
abbrev pub own_of : Option Object → List Name
own_of None = []
own_of (Some entry) = own entry

-- the names that leave because of a part of a change
abbrev pub leaving_by : List Object → Part → List Name
leaving_by db (Put entry files) = own_of (entry_of entry.name db)
leaving_by db (Remove name) = own_of (entry_of name db)
leaving_by db (Entry entry) = []
leaving_by db (Write path bytes) = []
leaving_by db (Erase path) = path ∷ []
leaving_by db (Stream entry) = own_of (entry_of entry.name db)
leaving_by db (Later paths) = []

-- the names that leave because of a change, unless it brings them
abbrev pub leaving : List Object → List Part → List Name
leaving db parts = flat_map (leaving_by db) parts

-- a file's path and bytes
abbrev pub named_bytes : FileBytes → Name × List ℕ
named_bytes file = (file.path, file.bytes)

-- the files that a part of a change brings with their bytes
abbrev pub coming_by : Part → List (Name × List ℕ)
coming_by (Put entry files) = map named_bytes files
coming_by (Remove name) = []
coming_by (Entry entry) = []
coming_by (Write path bytes) = (path, bytes) ∷ []
coming_by (Erase path) = []
coming_by (Stream entry) = []
coming_by (Later paths) = []

-- the files that a change brings with their bytes
abbrev pub coming : List Part → List (Name × List ℕ)
coming parts = flat_map coming_by parts

-- the paths of a part of a change whose bytes come later
abbrev pub later_by : Part → List Name
later_by (Put entry files) = []
later_by (Remove name) = []
later_by (Entry entry) = []
later_by (Write path bytes) = []
later_by (Erase path) = []
later_by (Stream entry) = own entry
later_by (Later paths) = paths

-- the paths of a change whose bytes come later
abbrev pub later : List Part → List Name
later parts = flat_map later_by parts

-- entries with one more, in the place of the one with its name
abbrev pub with_entry : Object → List Object → List Object
with_entry entry db = insert_by (λ (o : Object). o.name) entry (others entry.name db)

-- the entries after a part of a change
abbrev pub entries_by : Part → List Object → List Object
entries_by (Put entry files) db = with_entry entry db
entries_by (Remove name) db = others name db
entries_by (Entry entry) db = with_entry entry db
entries_by (Write path bytes) db = db
entries_by (Erase path) db = db
entries_by (Stream entry) db = with_entry entry db
entries_by (Later paths) db = db

-- the entries after a change
abbrev pub entries_after : List Part → List Object → List Object
entries_after [] db = db
entries_after (part ∷ parts) db = entries_after parts (entries_by part db)

-- whether a part of a change speaks of an entry
abbrev pub is_entry : Part → Bool
is_entry (Put entry files) = true
is_entry (Remove name) = true
is_entry (Entry entry) = true
is_entry (Write path bytes) = false
is_entry (Erase path) = false
is_entry (Stream entry) = true
is_entry (Later paths) = false

-- whether a change speaks of an entry, so that the database and the five files made from it are written
abbrev pub has_entries : List Part → Bool
has_entries parts = list_any is_entry parts

-- the database with these entries and the five files that are made from them
abbrev pub made : List Object → List (Name × List ℕ)
made db = (codes "texmf-dist/web2c/fmtutil.cnf", fmtutil_of db) ∷ (codes "texmf-dist/web2c/updmap.cfg", updmap_of db)
    ∷ (codes "texmf-var/tex/generic/config/language.dat", langdat_of db) ∷ (codes "texmf-var/tex/generic/config/language.dat.lua", langlua_of db)
    ∷ (codes "texmf-var/tex/generic/config/language.def", langdef_of db) ∷ (database, db_text db) ∷ []

-- the files that a change writes, where the database has these entries after it
abbrev pub written : List Part → List Object → List (Name × List ℕ)
written parts db = coming parts ++ (if has_entries parts then made db else [])

-- a volume without some names
abbrev pub removed_all : List Name → Volume → Volume
removed_all [] tree = tree
removed_all (name ∷ names) tree = removed_all names (finite.remove tree name)

-- a volume with some files
abbrev pub written_all : List (Name × List ℕ) → Volume → Volume
written_all [] tree = tree
written_all (file ∷ files) tree = written_all files (finite.insert tree file.0 file.1)

-- a tree with a database of these entries after a change whose bytes are all there: the files of each old entry of a name put or
-- removed are absent, and so is each erased path; then the files of each entry put and each written file are there; where the
-- change speaks of an entry, the database and the five files made from it are those of the new entries; every other name is as before
abbrev pub changed : List Object → List Part → Volume → Volume
changed db parts tree = written_all (written parts (entries_after parts db)) (removed_all (leaving db parts) tree)

-- the names of some files
abbrev pub names_of : List (Name × List ℕ) → List Name
names_of files = map (λ (file : Name × List ℕ). file.0) files
