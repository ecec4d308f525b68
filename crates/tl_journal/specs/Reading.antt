-- A body as it is read, piece by piece.
use Rattle.std.specs.Prelude.{◌≡◌, ◌-◌, ℕ, if◌then◌else◌, nat_lt, List, [], length, take, drop}
use Rattle.tl_model.specs.Seen.{Seen}
use Rattle.tl_journal_text.specs.declared.slot.Slot.{Slot}
use Rattle.tl_journal_text.specs.Slots.{body_of}
use Rattle.tl_journal_text.specs.Stand.{bytes_at}

-- a part of a body: the slot, the body's length, where the part begins, and its bytes
pub record Part : Type 0 where
  pub slot : Slot
  pub size : ℕ
  pub start : ℕ
  pub bytes : List ℕ

-- the bytes of a part from a place on; none where the place is before it
abbrev pub bytes_from : Part → ℕ → List ℕ
bytes_from part place = if nat_lt place part.start then [] else drop (place - part.start) part.bytes

-- the bytes of the body of a slot
abbrev pub body_at : Slot → Seen → List ℕ
body_at slot s = bytes_at s.present.held (body_of slot)

-- the part is one of the body that the host holds
pub record IsPartOf (part : Part) (s : Seen) : Type 0 where
  pub size : part.size ≡ length (body_at part.slot s)
  pub bytes : part.bytes ≡ take (length part.bytes) (drop part.start (body_at part.slot s))

-- two parts of one body
pub record SameBody (old new : Part) : Type 0 where
  pub slot : new.slot ≡ old.slot
  pub size : new.size ≡ old.size
