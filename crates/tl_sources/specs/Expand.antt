-- What `expand` says and refuses.
use Rattle.std.specs.Prelude.{ℕ, List, Option, Some, None, Result, Ok, Err}
use Rattle.tl_model.specs.Devices.{Verdicts}
use Rattle.tl_model.specs.Volume.{Volume}
use Rattle.tl_entry.specs.declared.object.Object.{Object}
use Rattle.tl_refusal.specs.declared.refusal.Refusal.{Refusal}
use Rattle.tl_refusal.specs.declared.refusal.Refusal.TheVariants.{BadMarks, BadSource, UnsetVariable, BadPath, Regexp, NoSource, TooLarge}
use Rattle.tl_command.specs.Runs.{Run, saying}
use Rattle.tl_backups.specs.Faults.{refused_by}
use Rattle.tl_master.specs.Masters.{expanded, master_of}
use Rattle.tl_master.specs.Sources.{then_read}
use Rattle.tl_master.specs.declared.error.MasterError.{MasterError}
use Rattle.tl_master.specs.declared.error.MasterError.TheVariants as faults

-- the refusal that a fault of a master, or of the entries of this package, is said as; None for a fault of the host and for want of memory,
-- which aren't refused
abbrev pub refusal_of : List ℕ → MasterError → Option Refusal
refusal_of name (faults.BadMarks line) = Some (BadMarks line)
refusal_of name (faults.BadSource source line kind) = Some (BadSource source line kind)
refusal_of name (faults.UnsetVariable source line) = Some (UnsetVariable source line)
refusal_of name (faults.BadPath source line) = Some (BadPath source line)
refusal_of name (faults.Regexp source line kind) = Some (Regexp source line kind)
refusal_of name faults.NoSource = Some (NoSource name)
refusal_of name (faults.TooLarge what limit) = Some (TooLarge what limit)
refusal_of name faults.HostFault = None
refusal_of name faults.NoMemory = None

-- the run that says a text about a package, or what is wrong with it
abbrev pub said_of : List ℕ → Result (List ℕ) MasterError → Run
said_of name (Ok text) = saying text
said_of name (Err fault) = refused_by (refusal_of name fault)

-- the text of the entries of a package's source in the master of a tree, by verdicts on patterns; or what is wrong, with the master first
abbrev pub expanded_in : List ℕ → Verdicts → Volume → Result (List ℕ) MasterError
expanded_in name verdicts tree = then_read (expanded verdicts name) (master_of verdicts tree)

-- the run of `expand` over a tree whose database reads
abbrev pub expand_run : List ℕ → Verdicts → Volume → List Object → Run
expand_run name verdicts tree entries = said_of name (expanded_in name verdicts tree)
