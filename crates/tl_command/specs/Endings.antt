-- What an ending is, and when it may come.
use Rattle.std.specs.Prelude.{ℕ}
use Rattle.tl_model.specs.Causes.{Rose}
use Rattle.tl_model.specs.Seen.{Seen}
use Rattle.tl_refusal.specs.declared.refusal.Refusal.{Refusal}
use Rattle.tl_refusal.specs.declared.refusal.Refusal.TheVariants.{BadWords}
use Rattle.tl_refusal.specs.Refusals.{refusal_status}
use Rattle.tl_command.specs.declared.ending.Ending.{Ending}
use Rattle.tl_command.specs.declared.ending.Ending.TheVariants.{Done, Refused, HostFault, ShelfFault, InputFault, NoMemory}

-- 0 for a command that was carried out, 1 or 2 for one that was refused, 3 for a fault, 4 for want of memory
abbrev pub status_of : Ending → ℕ
status_of Done = 0
status_of (Refused refusal) = refusal_status refusal
status_of HostFault = 3
status_of ShelfFault = 3
status_of InputFault = 3
status_of NoMemory = 4

-- the command was carried out, or refused
abbrev pub IsCarried : Ending → Type 0
IsCarried Done = Unit {0}
IsCarried (Refused refusal) = Unit {0}
IsCarried _ = ⊥

-- the refusal of words that are no command
abbrev pub IsOfWords : Refusal → Type 0
IsOfWords (BadWords at kind) = Unit {0}
IsOfWords _ = ⊥

-- words were refused
abbrev pub IsWordless : Ending → Type 0
IsWordless (Refused refusal) = IsOfWords refusal
IsWordless _ = ⊥

-- how often a command that ends so syncs beside its steps: once at most, for the recovery of a state that was spent, where it wasn't
-- carried out
abbrev pub spare_syncs : Ending → ℕ
spare_syncs Done = 0
spare_syncs _ = 1

-- the counts of faults of a shelf and of an input
pub record Faults : Type 0 where
  pub shelf : ℕ
  pub input : ℕ

-- those of a command that is given neither
abbrev pub no_devices : Faults
no_devices = record { shelf = 0; input = 0 }

-- a fault is answered only where the count of faults of its device rose
abbrev pub IsCaused : Ending → Seen → Seen → Faults → Faults → Type 0
IsCaused Done first last before after = Unit {0}
IsCaused (Refused refusal) first last before after = Unit {0}
IsCaused HostFault first last before after = Rose first.faults last.faults
IsCaused ShelfFault first last before after = Rose before.shelf after.shelf
IsCaused InputFault first last before after = Rose before.input after.input
IsCaused NoMemory first last before after = Unit {0}
