-- What `backup` says and does.
use Rattle.std.specs.Prelude.{◌≡◌, ℕ, not, nat_eq, Bool, if◌then◌else◌, List, [], ◌∷◌, ◌++◌, codes, length, map, filter, find, Option, Some, None, option_map, Result, Ok, Err}
use Rattle.std.specs.List.{starts_with, enumerate_from}
use Rattle.std.specs.Option.{is_none}
use Rattle.tl_model.specs.Decimal.{decimal_text}
use Rattle.tl_model.specs.Volume.{Name, Volume}
use Rattle.tl_kind.specs.Quantities.{limit_of}
use Rattle.tl_entry.specs.FilePaths.{rising_of}
use Rattle.tl_entry.specs.declared.object.Object.{Object}
use Rattle.tl_db.specs.Entries.{entry_of}
use Rattle.tl_tree.specs.Changes.{entries_after, changed}
use Rattle.tl_tree.specs.Owners.{name_of}
use Rattle.tl_tree.specs.declared.change.Part.{Part}
use Rattle.tl_backup.specs.Autobackup.{revision_at}
use Rattle.tl_backup.specs.Frames.{package_backup, missing_of, large_of}
use Rattle.tl_backup.specs.declared.error.BackupError.{BackupError}
use Rattle.tl_backup.specs.declared.error.BackupError.TheVariants.{NotInstalled, FileMissing, TooLarge, HostFault, NoMemory}
use Rattle.tl_refusal.specs.declared.refusal.Refusal.TheVariants.{Protected}
use Rattle.tl_command.specs.Labels.{step_label}
use Rattle.tl_command.specs.Runs.{Run, finished, refused, stepping}
use Rattle.tl_command.specs.Steps.{running}
use Rattle.tl_backups.specs.Faults.{faulted}

-- whether a name is one of the program's own entries
abbrev pub is_own_name : Name → Bool
is_own_name name = starts_with nat_eq name (codes "00texlive")

-- the names of the installed packages that aren't protected
abbrev pub open_names : List Object → List Name
open_names db = filter (λ name. not (is_own_name name)) (map name_of db)

-- the packages that are backed up, in the order of their names, each once: those that are named, and with the flag all that are installed
abbrev pub packages_of : List Name → Bool → List Object → List Name
packages_of names every db = rising_of (names ++ (if every then open_names db else []))

-- a fault, or another one where there is none
abbrev pub fault_or : Option BackupError → Option BackupError → Option BackupError
fault_or None other = other
fault_or (Some fault) other = Some fault

-- the first fault of some packages
abbrev pub fault_among : (Name → Option BackupError) → List Name → Option BackupError
fault_among fault [] = None
fault_among fault (name ∷ names) = fault_or (fault name) (fault_among fault names)

-- the fault of a package that isn't installed
abbrev pub installed_fault : List Object → Name → Option BackupError
installed_fault db name = if is_none (entry_of name db) then Some (NotInstalled name) else None

-- the fault of a package of which a file isn't there
abbrev pub files_fault : List Object → Volume → Name → Option BackupError
files_fault db tree name = option_map FileMissing (missing_of (entry_of name db) tree)

-- the fault of a package whose backup would be too large
abbrev pub size_fault : List Object → Volume → Name → Option BackupError
size_fault db tree name = option_map (λ what. TooLarge what (limit_of what)) (large_of (entry_of name db) tree)

-- the first fault of some packages: each kind over all of them before the next one
abbrev pub packages_fault : List Name → List Object → Volume → Option BackupError
packages_fault names db tree = fault_or (fault_among (installed_fault db) names)
    (fault_or (fault_among (files_fault db tree) names) (fault_among (size_fault db tree) names))

-- a check found no fault, or this one; a fault of the host and want of memory have their causes elsewhere
abbrev pub IsChecked : {X : Type 0} → Result X BackupError → Option BackupError → Type 0
IsChecked (Ok x) fault = fault ≡ None
IsChecked (Err HostFault) fault = Unit {0}
IsChecked (Err NoMemory) fault = Unit {0}
IsChecked (Err error) fault = fault ≡ Some error

-- what a step says that backs a package up at a revision
abbrev pub backup_text : Name → ℕ → List ℕ
backup_text name revision = codes "backup " ++ (name ++ (codes " r" ++ decimal_text revision))

-- the step of a part, or its refusal
abbrev pub step_with : List ℕ → Result Part BackupError → (List Object → Volume → Run) → List Object → Volume → Run
step_with label (Ok part) rest db tree =
    stepping db (part ∷ []) label (rest (entries_after (part ∷ []) db) (changed db (part ∷ []) tree)) tree
step_with label (Err fault) rest db tree = faulted fault

-- the step of a package by its number, of so many
abbrev pub backup_step : ℕ → ℕ × Name → (List Object → Volume → Run) → List Object → Volume → Run
backup_step count plan rest db tree =
    step_with (step_label plan.0 count (backup_text plan.1 (revision_at db plan.1))) (package_backup plan.1 db tree) rest db tree

-- the run that has nothing left to do, whatever the tree
abbrev pub nothing_left : List Object → Volume → Run
nothing_left db tree = finished

-- a run over what has no fault
abbrev pub unless_fault : Option BackupError → Run → Run
unless_fault None run = run
unless_fault (Some fault) run = faulted fault

-- a run over packages of which none is protected
abbrev pub unless_protected : Option Name → Run → Run
unless_protected None run = run
unless_protected (Some name) run = refused (Protected name)

-- the run over packages that aren't protected: one step for each
abbrev pub checked_run : List Name → Volume → List Object → Run
checked_run packages tree db =
    unless_fault (packages_fault packages db tree) (running (backup_step (length packages)) (enumerate_from 1 packages) nothing_left db tree)

-- the run over packages
abbrev pub packages_run : List Name → Volume → List Object → Run
packages_run packages tree db = unless_protected (find is_own_name packages) (checked_run packages tree db)

-- the run of `backup` over a tree with these entries
abbrev pub backup_run : List Name → Bool → Volume → List Object → Run
backup_run names every tree db = packages_run (packages_of names every db) tree db
