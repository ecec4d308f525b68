-- The two slots of a journal, and the names of its files.
use Rattle.std.specs.Prelude.{ℕ, codes, bytes_eq, Option, Some, None, List, [], ◌∷◌, if◌then◌else◌}
use Rattle.tl_model.specs.Volume.{Name, Volume, at}
use Rattle.tl_journal_text.specs.declared.slot.Slot.{Slot}
use Rattle.tl_journal_text.specs.declared.slot.Slot.TheVariants.{One, Two}

-- the slot that isn't this one
abbrev pub other : Slot → Slot
other One = Two
other Two = One

-- the byte of a gate that is open at this slot
abbrev pub byte_of : Slot → ℕ
byte_of One = 1
byte_of Two = 2

-- the file that says at which slot the journal is open
abbrev pub gate : Name
gate = codes "tlpkg/journal/gate"

-- the file that holds the body of a slot
abbrev pub body_of : Slot → Name
body_of One = codes "tlpkg/journal/body"
body_of Two = codes "tlpkg/journal/body2"

-- the slot at which a gate with these bytes is open: it has that slot's byte alone
abbrev pub opens : Option (List ℕ) → Option Slot
opens None = None
opens (Some bytes) = if bytes_eq bytes (1 ∷ []) then Some One else if bytes_eq bytes (2 ∷ []) then Some Two else None

-- the slot at which the gate of a volume is open, if it is
abbrev pub open_slot : Volume → Option Slot
open_slot volume = opens (at volume gate)

-- the slot that the next body is written to: the one at which the gate isn't open, and the first where it is closed
abbrev pub spare : Option Slot → Slot
spare None = One
spare (Some slot) = other slot
