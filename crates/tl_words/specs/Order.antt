-- A fault of words, and which of two comes first.
use Rattle.std.specs.Prelude.{ℕ, if◌then◌else◌, Option, Some, None, nat_le}
use Rattle.tl_words.specs.declared.error.WordKind.{WordKind}
use Rattle.tl_words.specs.declared.faults.Fault.{Fault}

-- a fault of this kind at this place
abbrev pub fault : WordKind → ℕ → Fault
fault kind at = record { at = at; kind = kind }

-- the first fault, else the second
abbrev pub or_else : Option Fault → Option Fault → Option Fault
or_else (Some a) b = Some a
or_else None b = b

-- the fault at the lesser place; the first one where both have one place
abbrev pub earlier : Option Fault → Option Fault → Option Fault
earlier None b = b
earlier (Some a) None = Some a
earlier (Some a) (Some b) = Some (if nat_le a.at b.at then a else b)
