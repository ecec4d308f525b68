-- How the body of a journal is read.
use Rattle.std.specs.Prelude.{◌+◌, ℕ, zero, suc, ◌==◌, if◌then◌else◌, List, [], ◌∷◌, length, take, drop, Option, Some, None, nat_lt, slice_index}
use Rattle.std.specs.Int.{w16, w64, from_be_bytes}
use Rattle.tl_model.specs.Volume.{Name}
use Rattle.tl_journal_text.specs.Records.{Record, Remove, Write, is_target, text_of}

-- what stands at a place: the end, a field that is cut or wrong, with its place, or a record and the rest
pub data Next : Type 0 where
  Ends : Next
  Faulty : (place : ℕ) → Next
  Takes : (r : Record) (rest : List ℕ) → Next

-- no record stands there
abbrev pub Stops : Next → Type 0
Stops Ends = Unit {0}
Stops (Faulty place) = Unit {0}
Stops (Takes r rest) = ⊥

-- a field of so many bytes at a place, and the rest
unfoldable pub taken : ℕ → ℕ → List ℕ → (List ℕ → List ℕ → Next) → Next
taken from n text go = if nat_lt (length text) n then Faulty from else go (take n text) (drop n text)

-- the length of a path, and the path
unfoldable pub named : ℕ → List ℕ → (Name → List ℕ → Next) → Next
named from text go = taken from 2 text (λ size more. taken (from + 2) (from_be_bytes w16 size) more (λ name rest. if is_target name then go name rest else Faulty (from + 2)))

-- a number of bytes, and the bytes
unfoldable pub sized : ℕ → List ℕ → (List ℕ → List ℕ → Next) → Next
sized from text go = taken from 8 text (λ size more. taken (from + 8) (from_be_bytes w64 size) more go)

-- the fields that a kind of record has; an end has nothing after it
abbrev pub next_of : ℕ → ℕ → List ℕ → Next
next_of from kind rest =
    if kind == 69 then (if length rest == 0 then Ends else Faulty (from + 1))
    else if kind == 82 then named (from + 1) rest (λ name more. Takes (Remove name) more)
    else if kind == 87 then named (from + 1) rest (λ name more. sized (from + 3 + length name) more (λ bytes others. Takes (Write name bytes) others))
    else Faulty from

-- what stands at the front of a text that begins at a place
unfoldable pub next : ℕ → List ℕ → Next
next from text = taken from 1 text (λ kind rest. next_of from (slice_index kind 0) rest)

-- what a body is read as: its records, or the place of its first field that is cut or wrong
pub data Reading : Type 0 where
  Whole : (rs : List Record) → Reading
  Bad : (place : ℕ) → Reading

-- a record before what the rest is read as
abbrev pub before : Record → Reading → Reading
before r (Whole rs) = Whole (r ∷ rs)
before r (Bad place) = Bad place

-- the reading of a text that begins at a place; no record is empty, so it has fewer than turns
unfoldable pub reading_by : ℕ → ℕ → List ℕ → Reading
reading_by zero from text = Bad from
reading_by (suc turns) from text = elim (next from text) [
  | Ends ↦ Whole []
  | Faulty place ↦ Bad place
  | Takes r rest ↦ before r (reading_by turns (from + length (text_of r)) rest)
]

-- the reading of a body
abbrev pub reading : List ℕ → Reading
reading text = reading_by (suc (length text)) 0 text

-- the records of a reading, if it is whole
abbrev pub records_in : Reading → Option (List Record)
records_in (Whole rs) = Some rs
records_in (Bad place) = None

-- the place of the fault of a reading, if it has one
abbrev pub fault_in : Reading → Option ℕ
fault_in (Whole rs) = None
fault_in (Bad place) = Some place

-- the records of a body, or nothing where it isn't in the grammar
abbrev pub records_of : List ℕ → Option (List Record)
records_of text = records_in (reading text)

-- the place of the first field of a body that is cut or wrong, if one is
abbrev pub fault_of : List ℕ → Option ℕ
fault_of text = fault_in (reading text)
