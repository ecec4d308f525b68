-- What a step adds for the packages that leave or are replaced in it.
use Rattle.std.specs.Prelude.{ℕ, ◌&&◌, nat_le, nat_lt, if◌then◌else◌, List, [], ◌∷◌, ◌++◌, codes, map, Option, Some, None, Result, Ok, Err}
use Rattle.std.specs.List.{flat_map}
use Rattle.std.specs.Str.{bytes_eq}
use Rattle.tl_model.specs.Decimal.{is_decimal, decimal_value}
use Rattle.tl_model.specs.Volume.{Name, Volume}
use Rattle.tl_entry.specs.declared.object.Object.{Object}
use Rattle.tl_db.specs.Entries.{entry_of}
use Rattle.tl_db.specs.Options.{option_value}
use Rattle.tl_db.specs.declared.options.TreeOption.TheVariants as options
use Rattle.tl_tree.specs.declared.change.Part.{Part}
use Rattle.tl_tree.specs.declared.change.Part.TheVariants.{Erase}
use Rattle.tl_backup.specs.Files.{backup_path, pruned_from}
use Rattle.tl_backup.specs.Frames.{package_backup}
use Rattle.tl_backup.specs.Listed.{listed}
use Rattle.tl_backup.specs.declared.names.Backup.{Backup}
use Rattle.tl_backup.specs.declared.error.BackupError.{BackupError}

-- the revision of an entry, where there is one; else 0
abbrev pub entry_revision : Option Object → ℕ
entry_revision None = 0
entry_revision (Some entry) = entry.revision

-- the revision of an installed package; 0 where none has the name
abbrev pub revision_at : List Object → Name → ℕ
revision_at db name = entry_revision (entry_of name db)

-- how many backups of a package are kept by a value of the option: a number above 0; None where all are
abbrev pub kept_by : List ℕ → Option ℕ
kept_by value = if is_decimal value && (nat_le (decimal_value value) 4294967295 && nat_lt 0 (decimal_value value)) then Some (decimal_value value) else None

-- a part in front of others, where all could be made
abbrev pub with_part : Result Part BackupError → Result (List Part) BackupError → Result (List Part) BackupError
with_part (Err fault) more = Err fault
with_part (Ok part) (Err fault) = Err fault
with_part (Ok part) (Ok parts) = Ok (part ∷ parts)

-- the parts that back packages up, or the fault of the first package that has one
abbrev pub backups_of : List Name → List Object → Volume → Result (List Part) BackupError
backups_of [] db tree = Ok []
backups_of (name ∷ names) db tree = with_part (package_backup name db tree) (backups_of names db tree)

-- the part that erases a backup
abbrev pub erasing : Backup → Part
erasing backup = Erase (backup_path backup.name backup.revision)

-- the backups of a package that go where so many of it are kept, its installed revision among them
abbrev pub gone_of : ℕ → List Object → List Backup → Name → List Backup
gone_of keep db backups name = pruned_from name (revision_at db name) keep backups

-- the parts that erase the backups of packages which go where so many of each are kept
abbrev pub pruning : ℕ → List Name → List Object → List Backup → List Part
pruning keep names db backups = flat_map (λ name. map erasing (gone_of keep db backups name)) names

-- these parts, where the backups of the tree could be listed
abbrev pub pruning_of : ℕ → List Name → List Object → Result (List Backup) BackupError → Result (List Part) BackupError
pruning_of keep names db (Err fault) = Err fault
pruning_of keep names db (Ok backups) = Ok (pruning keep names db backups)

-- the parts that erase backups where so many of each package are kept; none where all are
abbrev pub pruning_by : Option ℕ → List Name → List Object → Volume → Result (List Part) BackupError
pruning_by None names db tree = Ok []
pruning_by (Some keep) names db tree = pruning_of keep names db (listed None tree)

-- parts, and then others, where all could be made
abbrev pub with_parts : Result (List Part) BackupError → Result (List Part) BackupError → Result (List Part) BackupError
with_parts (Err fault) more = Err fault
with_parts (Ok parts) (Err fault) = Err fault
with_parts (Ok parts) (Ok more) = Ok (parts ++ more)

-- what a step adds by a value of the option: nothing where it is 0; else the backups in the order of the packages, and then, where it is
-- above 0, the erasures of those that aren't kept
abbrev pub autobackup_by : List ℕ → List Name → List Object → Volume → Result (List Part) BackupError
autobackup_by value names db tree = if bytes_eq value (codes "0") then Ok []
    else with_parts (backups_of names db tree) (pruning_by (kept_by value) names db tree)

-- what a step adds for the packages that leave or are replaced in it, by the tree's option `autobackup`
abbrev pub autobackup : List Name → List Object → Volume → Result (List Part) BackupError
autobackup names db tree = autobackup_by (option_value options.Autobackup db) names db tree
