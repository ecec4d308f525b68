-- What `restore` does and refuses.
use Rattle.std.specs.Prelude.{ℕ, if◌then◌else◌, List, [], ◌∷◌, ◌++◌, codes, Option, Some, None, Result, Ok, Err}
use Rattle.std.specs.Option.{option_or}
use Rattle.tl_model.specs.Decimal.{decimal_text}
use Rattle.tl_model.specs.Volume.{Name, Volume}
use Rattle.tl_file.specs.declared.file.FileBytes.{FileBytes}
use Rattle.tl_entry.specs.declared.object.Object.{Object}
use Rattle.tl_tree.specs.declared.change.Part.{Part}
use Rattle.tl_tree.specs.declared.change.Part.TheVariants.{Put}
use Rattle.tl_backup.specs.Files.{backup_path}
use Rattle.tl_backup.specs.Listed.{listed}
use Rattle.tl_coming.specs.Refused.{first_of, owned_path, reserved_path, tree_fault}
use Rattle.tl_coming.specs.declared.error.ComingError.{ComingError}
use Rattle.tl_coming.specs.declared.error.ComingError.TheVariants as coming
use Rattle.tl_refusal.specs.declared.refusal.Refusal.{Refusal}
use Rattle.tl_refusal.specs.declared.refusal.Refusal.TheVariants as refusals
use Rattle.tl_command.specs.Labels.{step_label}
use Rattle.tl_command.specs.Runs.{Run, finished, refused, stepping}
use Rattle.tl_backups.specs.Backing.{is_own_name}
use Rattle.tl_backups.specs.Faults.{refused_by}
use Rattle.tl_restore.specs.Listing.{said_backups}
use Rattle.tl_restore.specs.Restored.{restored}
use Rattle.tl_restore.specs.declared.reading.RestoreError.{RestoreError}
use Rattle.tl_restore.specs.declared.reading.RestoreError.TheVariants as faults

-- the refusal that a backup of a package at a revision is said as which brings nothing back; None for a fault of the host and for want of
-- memory, which aren't refused
abbrev pub unread_refusal : Name → ℕ → RestoreError → Option Refusal
unread_refusal name revision faults.NoBackup = Some (refusals.NoBackup name revision)
unread_refusal name revision (faults.TooLarge what limit) = Some (refusals.TooLarge what limit)
unread_refusal name revision (faults.BadFrame at) = Some (refusals.BadFrame (backup_path name revision) at)
unread_refusal name revision faults.FrameEntry = Some (refusals.FrameEntry name)
unread_refusal name revision faults.HostFault = None
unread_refusal name revision faults.NoMemory = None

-- the refusal that a fault of a package is said as which comes; None for a fault of the host and for want of memory
abbrev pub coming_refusal : ComingError → Option Refusal
coming_refusal (coming.Protected name) = Some (refusals.Protected name)
coming_refusal (coming.NotInstalled name) = Some (refusals.NotInstalled name)
coming_refusal (coming.UnknownPackage name) = Some (refusals.UnknownPackage name)
coming_refusal (coming.BadExecute name at kind) = Some (refusals.BadExecute name at kind)
coming_refusal (coming.Reserved path) = Some (refusals.Reserved path)
coming_refusal (coming.Clash path first second) = Some (refusals.Clash path first second)
coming_refusal (coming.Owned path owner) = Some (refusals.Owned path owner)
coming_refusal (coming.TooLarge what limit) = Some (refusals.TooLarge what limit)
coming_refusal (coming.Occupied path) = Some (refusals.Occupied path)
coming_refusal coming.HostFault = None
coming_refusal coming.NoMemory = None

-- the first fault of the paths of an entry that comes back: its least reserved one, then its least one that touches a file of an installed
-- package of another name
abbrev pub paths_fault : List Object → Object → Option ComingError
paths_fault db entry = option_or (first_of reserved_path (entry ∷ [])) (first_of (owned_path db (entry.name ∷ [])) (entry ∷ []))

-- the first fault of an entry that comes back into a tree: that of its paths, then that of what stands in the tree
abbrev pub return_fault : List Object → Volume → Object → Option ComingError
return_fault db tree entry = option_or (paths_fault db entry) (tree_fault db tree (entry ∷ []))

-- what a package is brought back as
abbrev pub restore_text : Name → ℕ → List ℕ
restore_text name revision = codes "restore " ++ (name ++ (codes " r" ++ decimal_text revision))

-- the line that acknowledges that a package was brought back
abbrev pub restore_label : Name → ℕ → List ℕ
restore_label name revision = step_label 1 1 (restore_text name revision)

-- the part of a change that brings an entry back, as it is, and its files
abbrev pub returning_part : Object × List FileBytes → Part
returning_part back = Put back.0 back.1

-- the run whose one step brings an entry and its files back
abbrev pub returning : Name → ℕ → Object × List FileBytes → Volume → List Object → Run
returning name revision back tree db = stepping db (returning_part back ∷ []) (restore_label name revision) finished tree

-- a run, unless a package that comes has a fault, which is refused
abbrev pub unless_coming : Option ComingError → Run → Run
unless_coming None run = run
unless_coming (Some fault) run = refused_by (coming_refusal fault)

-- the run that brings an entry and its files back, unless something keeps it from coming
abbrev pub returned : Name → ℕ → Object × List FileBytes → Volume → List Object → Run
returned name revision back tree db = unless_coming (return_fault db tree back.0) (returning name revision back tree db)

-- the run that brings back what a backup of a package at a revision holds, where it can be read
abbrev pub returned_from : Name → ℕ → Result (Object × List FileBytes) RestoreError → Volume → List Object → Run
returned_from name revision (Err fault) tree db = refused_by (unread_refusal name revision fault)
returned_from name revision (Ok back) tree db = returned name revision back tree db

-- the run that brings a package back from its backup at a revision; without one, the run that says its backups
abbrev pub open_run : Name → Option ℕ → Volume → List Object → Run
open_run name None tree db = said_backups (listed (Some name) tree)
open_run name (Some revision) tree db = returned_from name revision (restored name revision tree) tree db

-- the run of `restore` over a tree with these entries: without a name it says all backups; one of the program's own entries is refused
abbrev pub restore_run : Option Name → Option ℕ → Volume → List Object → Run
restore_run None revision tree db = said_backups (listed None tree)
restore_run (Some name) revision tree db = if is_own_name name then refused (refusals.Protected name) else open_run name revision tree db
