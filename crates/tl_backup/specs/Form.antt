-- Parts of a change that write and erase backups.
use Rattle.std.specs.Prelude.{◌≡◌, ℕ, List, ◌++◌, codes, map, Option, Some, None}
use Rattle.std.specs.List.{AllByRecursion, IsDistinct}
use Rattle.tl_model.specs.Volume.{Name, same_name}
use Rattle.tl_tree.specs.Conditions.{spoken_paths}
use Rattle.tl_tree.specs.declared.change.Part.{Part}
use Rattle.tl_tree.specs.declared.change.Part.TheVariants.{Put, Remove, Entry, Write, Erase, Stream, Later}
use Rattle.tl_backup.specs.Files.{backup_at}
use Rattle.tl_backup.specs.declared.names.Backup.{Backup}

-- the backup that a part of a change writes or erases; None where it is another path, or another kind of part
abbrev pub backup_by : Part → Option Backup
backup_by (Put entry files) = None
backup_by (Remove name) = None
backup_by (Entry entry) = None
backup_by (Write path bytes) = backup_at path
backup_by (Erase path) = backup_at path
backup_by (Stream entry) = None
backup_by (Later paths) = None

-- parts write or erase these backups, one by one
abbrev pub AreAt : List Part → List Backup → Type 0
AreAt parts backups = map backup_by parts ≡ map (λ backup. Some backup) backups

-- the backup of a package at its revision
abbrev pub installed : (Name → ℕ) → Name → Backup
installed revision name = record { name = name; revision = revision name }

-- a part of a change writes or erases a file where the backups are
abbrev pub IsOfBackups : Part → Type 0
IsOfBackups (Put entry files) = ⊥
IsOfBackups (Remove name) = ⊥
IsOfBackups (Entry entry) = ⊥
IsOfBackups (Write path bytes) = (file : List ℕ) × (path ≡ codes "tlpkg/backups/" ++ file)
IsOfBackups (Erase path) = (file : List ℕ) × (path ≡ codes "tlpkg/backups/" ++ file)
IsOfBackups (Stream entry) = ⊥
IsOfBackups (Later paths) = ⊥

-- so does each of some parts, no two at one path
pub record AreOfBackups (parts : List Part) : Type 0 where
  pub each : AllByRecursion IsOfBackups parts
  pub apart : IsDistinct same_name (spoken_paths parts)
