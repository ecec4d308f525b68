-- What holds while a step is under way.
use Rattle.std.specs.Prelude.{◌≡◌, ◌&&◌, ℕ, Bool, true, not, List, ◌++◌, length, Option}
use Rattle.std.specs.Option.{unwrap_or}
use Rattle.std.specs.List.{IsDistinct}
use Rattle.std.specs.List.Sorted.{IsPermutation}
use Rattle.std.specs.FinSet as set
use Rattle.tl_model.specs.Volume.{Name, Names, same_name}
use Rattle.tl_model.specs.Seen.{Seen}
use Rattle.tl_journal_text.specs.Stand.{tree_of}
use Rattle.tl_journal.specs.States.{coming as staged_with}
use Rattle.tl_journal.specs.Spent.{Stages}
use Rattle.tl_entry.specs.declared.object.Object.{Object}
use Rattle.tl_db.specs.Reading.{IsRead}
use Rattle.tl_db.specs.Text.{db_text}
use Rattle.tl_tree.specs.Planted.{database_text}
use Rattle.tl_tree.specs.Changes.{later, leaving, written, names_of, has_entries, entries_after}
use Rattle.tl_tree.specs.Conditions.{IsChange}
use Rattle.tl_tree.specs.Staged.{has_name, has_file, LeavesOut, writes_of, records_for}
use Rattle.tl_tree.specs.Opened.{Opened, with_bytes}
use Rattle.tl_tree.specs.declared.change.Part.{Part}
use Rattle.tl_tree.specs.declared.step.Place.{Place}
use Rattle.tl_tree.specs.declared.step.Place.TheVariants.{Between, Within}

-- the host of a step, between two files or within one
abbrev pub seen_of : {H : Type 0} → Place H → Seen
seen_of (Between staging) = staging
seen_of (Within writing) = writing.seen

-- how many bytes its last file lacks
abbrev pub lacks_of : {H : Type 0} → Place H → ℕ
lacks_of (Between staging) = 0
lacks_of (Within writing) = writing.left

-- a step with this place, these old entries and this change, whose paths these are awaited
abbrev pub seen_as : {H : Type 0} → Place H → List Object → List Part → List ℕ → Names → Bool → Opened
seen_as place db parts label awaits astray = record { seen = seen_of place; db = db; parts = parts; label = label; awaits = awaits; lacks = lacks_of place; astray = astray }

-- a step's change may be made, and these are the entries after it, where it speaks of one
pub record IsPlanned (step : Opened) (entries : Option (List Object)) : Type 0 where
  pub change : IsChange step.db step.parts step.label
  pub next : unwrap_or entries step.db ≡ entries_after step.parts step.db
  pub read : has_entries step.parts ≡ true → IsRead (db_text (entries_after step.parts step.db)) (entries_after step.parts step.db)
  pub awaits : (name : Name) → set.contains step.awaits name ≡ true → has_name name (later step.parts) ≡ true

-- the tree is the old one still; staged are the names that leave and the files of the change, and then the files given so far
pub record IsUnderWay (step : Opened) : Type 0 where
  pub stages : Stages step.seen step.seen
  pub read : IsRead (database_text (tree_of step.seen.present.held)) step.db
  pub removes : List Name
  pub writes : List (Name × List ℕ)
  pub files : List (Name × List ℕ)
  pub staged : (bytes : List ℕ) → length bytes ≡ step.lacks → staged_with (record { seen = step.seen; left = step.lacks }) bytes ≡ records_for removes writes ++ writes_of (with_bytes bytes files)
  pub moved : IsPermutation (written step.parts (entries_after step.parts step.db)) writes
  pub left : LeavesOut writes (set.from_list (later step.parts)) (leaving step.db step.parts) removes
  pub apart : IsDistinct same_name (names_of files)
  pub came : (name : Name) → has_file name files ≡ (has_name name (later step.parts) && not (set.contains step.awaits name))
