-- The backups of a tree.
use Rattle.std.specs.Prelude.{nat_lt, Bool, true, if◌then◌else◌, List, length, filter, Option, Some, None, Result, Ok, Err}
use Rattle.std.specs.List.{filter_map}
use Rattle.std.specs.Str.{bytes_eq}
use Rattle.std.specs.FinMap.{keys}
use Rattle.tl_model.specs.Volume.{Name, Volume}
use Rattle.tl_kind.specs.Quantities.{limit_of}
use Rattle.tl_kind.specs.declared.quantity.What.TheVariants as quantities
use Rattle.tl_backup.specs.Files.{backup_at, backup_cmp}
use Rattle.tl_backup.specs.Ordered.{in_order}
use Rattle.tl_backup.specs.declared.names.Backup.{Backup}
use Rattle.tl_backup.specs.declared.error.BackupError.{BackupError}
use Rattle.tl_backup.specs.declared.error.BackupError.TheVariants.{TooLarge}

-- whether a backup is one of a package, or of any
abbrev pub is_wanted : Option Name → Backup → Bool
is_wanted None backup = true
is_wanted (Some name) backup = bytes_eq backup.name name

-- the backups of a package, or of any, among some paths
abbrev pub backups_at : Option Name → List Name → List Backup
backups_at name paths = filter (is_wanted name) (filter_map backup_at paths)

-- what a call over the names of a tree answers, where there are no more than the limit
abbrev pub within_files : {X : Type 0} → Volume → Result X BackupError → Result X BackupError
within_files tree answer = if nat_lt (limit_of quantities.Files) (length (keys tree)) then Err (TooLarge quantities.Files (limit_of quantities.Files)) else answer

-- the backups of a package, or of any, by name and then by revision
abbrev pub listed : Option Name → Volume → Result (List Backup) BackupError
listed name tree = within_files tree (Ok (in_order backup_cmp (backups_at name (keys tree))))
