-- What `restore` says without a revision.
use Rattle.std.specs.Prelude.{ℕ, List, [], ◌∷◌, ◌++◌, codes, Result, Ok, Err}
use Rattle.std.specs.List.{flat_map}
use Rattle.tl_model.specs.Decimal.{decimal_text}
use Rattle.tl_backup.specs.declared.names.Backup.{Backup}
use Rattle.tl_backup.specs.declared.error.BackupError.{BackupError}
use Rattle.tl_command.specs.Runs.{Run, saying}
use Rattle.tl_backups.specs.Faults.{faulted}

-- the line that says a backup: `NAME rREV`
abbrev pub backup_line : Backup → List ℕ
backup_line backup = (backup.name ++ (codes " r" ++ decimal_text backup.revision)) ++ 10 ∷ []

-- the lines that say some backups
abbrev pub backup_lines : List Backup → List ℕ
backup_lines backups = flat_map backup_line backups

-- the run that says backups, where they could be listed
abbrev pub said_backups : Result (List Backup) BackupError → Run
said_backups (Ok backups) = saying (backup_lines backups)
said_backups (Err fault) = faulted fault
