-- What is staged of a change.
use Rattle.std.specs.Prelude.{◌≡◌, ◌≤◌, ◌+◌, ℕ, Bool, true, false, List, ◌++◌, map, take, Some}
use Rattle.std.specs.List.{list_any, AllByRecursion}
use Rattle.std.specs.List.Sorted.{IsPermutation}
use Rattle.std.specs.FinSet as set
use Rattle.tl_model.specs.Volume.{Name, Names, Volume, same_name}
use Rattle.tl_model.specs.Seen.{Seen, Since}
use Rattle.tl_journal_text.specs.Records.{Record, Remove, Write, is_outside, after}
use Rattle.tl_journal_text.specs.Stand.{stand, tree_of, IsBeforeOrAfter, SaysFront}
use Rattle.tl_journal.specs.States.{staged}
use Rattle.tl_tree.specs.declared.arrange.Coming.{Coming}

-- whether a name is one of some
abbrev pub has_name : Name → List Name → Bool
has_name name names = list_any (λ (n : Name). same_name name n) names

-- whether one of some files has a name
abbrev pub has_file : Name → List (Name × List ℕ) → Bool
has_file name files = list_any (λ (file : Name × List ℕ). same_name name file.0) files

-- each name is neither the journal's folder nor below it
abbrev pub AreOutside : List Name → Type 0
AreOutside names = AllByRecursion (λ (name : Name). is_outside name ≡ true) names

-- so is the name of each file
abbrev pub FilesOutside : List (Name × List ℕ) → Type 0
FilesOutside files = AllByRecursion (λ (file : Name × List ℕ). is_outside file.0 ≡ true) files

-- of some names, only those of files that come, or that are waited for, are left out
abbrev pub LeavesOut : List (Name × List ℕ) → Names → List Name → List Name → Type 0
LeavesOut files waiting names kept =
    (name : Name) → has_file name files ≡ false → set.contains waiting name ≡ false → has_name name kept ≡ has_name name names

-- a file that is borrowed: its path and bytes
abbrev pub file_of : Coming → Name × List ℕ
file_of file = (file.path.now, file.bytes.now)

-- the files that are borrowed
abbrev pub files_of : List Coming → List (Name × List ℕ)
files_of files = map file_of files

-- the record that writes a file
abbrev pub write_of : Name × List ℕ → Record
write_of file = Write file.0 file.1

-- the records that remove some names
abbrev pub removes_of : List Name → List Record
removes_of names = map (λ (name : Name). Remove name) names

-- the records that write some files
abbrev pub writes_of : List (Name × List ℕ) → List Record
writes_of files = map write_of files

-- the records of a step: the removes, then the writes
abbrev pub records_for : List Name → List (Name × List ℕ) → List Record
records_for names files = removes_of names ++ writes_of files

-- the tree that staged records make
abbrev pub next_tree : Seen → Volume
next_tree staging = after (staged staging) (tree_of staging.present.held)

-- the records that were staged were made stable and carried out
pub record IsMade (old new : Seen) : Type 0 where
  pub tree : tree_of new.present.held ≡ next_tree old
  pub stands : stand new.present.held ≡ Some (next_tree old)
  pub said : new.present.said ≡ old.present.said

-- they were being made stable and carried out, whichever way it ended
pub record IsHalted (old new : Seen) : Type 0 where
  pub pictures : Since old new (IsBeforeOrAfter (staged old) old)
  pub syncs : new.syncs ≤ old.syncs + 2

-- a front of the bytes was said, and nothing else has changed
pub record IsFrontSaid (bytes : List ℕ) (old new : Seen) : Type 0 where
  pub held : new.present.held ≡ old.present.held
  pub count : ℕ
  pub said : new.present.said ≡ old.present.said ++ take count bytes
  pub pictures : Since old new (SaysFront bytes old)
  pub syncs : new.syncs ≡ old.syncs

-- all of a change is staged: the names that leave but for those that come, and its files
pub record HasStaged (files : List (Name × List ℕ)) (waiting : Names) (names : List Name) (staging : Seen) : Type 0 where
  pub removes : List Name
  pub writes : List (Name × List ℕ)
  pub records : staged staging ≡ records_for removes writes
  pub moved : IsPermutation files writes
  pub left : LeavesOut writes waiting names removes
