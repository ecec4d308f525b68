-- What is installed under a name, and how a change replaces it whole.
use Rattle.std.specs.Prelude.{◌≡◌, false, ℕ, List, Option, Some, None, map}
use Rattle.std.specs.Option.{option_map}
use Rattle.std.specs.List.{AllByRecursion}
use Rattle.std.specs.FinMap as finite
use Rattle.tl_model.specs.Volume.{Name, Volume}
use Rattle.tl_entry.specs.declared.object.Object.{Object}
use Rattle.tl_db.specs.Entries.{entry_of}
use Rattle.tl_tree.specs.Staged.{has_name}
use Rattle.tl_tree.specs.Changes.{own, leaving, removed_all, written_all, named_bytes}
use Rattle.tl_tree.specs.Conditions.{spoken_names}
use Rattle.tl_tree.specs.declared.change.Part.{Part}
use Rattle.tl_tree.specs.declared.change.Part.TheVariants.{Put, Remove, Entry, Write, Erase, Stream, Later}

-- the files of a tree at some paths
abbrev pub files_among : List Name → Volume → Volume
files_among paths tree = finite.retain_keys tree (λ path. has_name path paths)

-- what is installed under a name: its entry, and the files of that in the tree
abbrev pub stock_of : List Object → Volume → Name → Option (Object × Volume)
stock_of db tree name = option_map (λ (entry : Object). (entry, files_among (own entry) tree)) (entry_of name db)

-- a volume that holds some files and nothing else
abbrev pub volume_of : List (Name × List ℕ) → Volume
volume_of files = written_all files finite.empty

-- what a part of a change makes of its name, where the old tree less the names that leave is given: the entry with exactly its
-- files, nothing, or the entry with the files that were there
abbrev pub Stocks : List Object → Volume → Volume → Part → Type 0
Stocks db tree rest (Put entry files) = stock_of db tree entry.name ≡ Some (entry, volume_of (map named_bytes files))
Stocks db tree rest (Remove name) = stock_of db tree name ≡ None
Stocks db tree rest (Entry entry) = stock_of db tree entry.name ≡ Some (entry, files_among (own entry) rest)
Stocks db tree rest (Write path bytes) = Unit {0}
Stocks db tree rest (Erase path) = Unit {0}
Stocks db tree rest (Stream entry) = Unit {0}
Stocks db tree rest (Later paths) = Unit {0}

-- a change replaces whole packages: at each name that it puts, removes or enters, what its part says; at each other name what was
-- there, but for paths that an entry which left has too
pub record ReplacesWhole (old_db : List Object) (parts : List Part) (old_tree : Volume) (db : List Object) (tree : Volume) : Type 0 where
  pub changes : AllByRecursion (Stocks db tree (removed_all (leaving old_db parts) old_tree)) parts
  pub others : (name : Name) → has_name name (spoken_names parts) ≡ false → stock_of db tree name ≡ stock_of old_db (removed_all (leaving old_db parts) old_tree) name
