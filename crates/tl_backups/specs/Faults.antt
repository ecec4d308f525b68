-- How a command ends at a fault of a backup.
use Rattle.std.specs.Prelude.{Option, Some, None}
use Rattle.tl_backup.specs.declared.error.BackupError.{BackupError}
use Rattle.tl_backup.specs.declared.error.BackupError.TheVariants as faults
use Rattle.tl_refusal.specs.declared.refusal.Refusal.{Refusal}
use Rattle.tl_refusal.specs.declared.refusal.Refusal.TheVariants.{NotInstalled, FileMissing, TooLarge}
use Rattle.tl_command.specs.Runs.{Run, finished, refused}

-- the refusal that a fault of a backup is said as; None for a fault of the host and for want of memory, which aren't refused
abbrev pub refusal_of : BackupError → Option Refusal
refusal_of (faults.NotInstalled name) = Some (NotInstalled name)
refusal_of (faults.FileMissing path) = Some (FileMissing path)
refusal_of (faults.TooLarge what limit) = Some (TooLarge what limit)
refusal_of faults.HostFault = None
refusal_of faults.NoMemory = None

-- the run that says a refusal, where there is one
abbrev pub refused_by : Option Refusal → Run
refused_by None = finished
refused_by (Some refusal) = refused refusal

-- the run that says the refusal of a fault of a backup
abbrev pub faulted : BackupError → Run
faulted fault = refused_by (refusal_of fault)
