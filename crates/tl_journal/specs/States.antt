-- What holds in each state of a journal.
use Rattle.std.specs.Prelude.{◌≡◌, ◌⊎◌, ◌<◌, ◌+◌, ◌^◌, ℕ, true, false, List, [], ◌∷◌, ◌++◌, length, Option, Some, None, refl}
use Rattle.std.specs.Option.{unwrap_or}
use Rattle.std.specs.List.{AllByRecursion}
use Rattle.std.specs.FinSet as set
use Rattle.std.specs.Coded.{Coded, code_by, coded×, coded_ℕ}
use Rattle.tl_model.specs.Volume.{Name, Volume, at}
use Rattle.tl_model.specs.Seen.{Moment, Seen, Since, seen_code}
use Rattle.tl_journal_text.specs.declared.slot.Slot.{Slot}
use Rattle.tl_journal_text.specs.Slots.{gate, body_of, open_slot, spare, other}
use Rattle.tl_journal_text.specs.Records.{Record, is_ours, is_target, Fits, IsAmong, after, records_text, write_head}
use Rattle.tl_journal_text.specs.Body.{records_of}
use Rattle.tl_journal_text.specs.Stand.{tree_of, bytes_at, stand, Stays, IsBeforeOrAfter}
use Rattle.tl_journal.specs.Touching.{TouchesOnly}

-- the records of the body of a slot, if a slot is given; none else
abbrev pub records_at : Option Slot → Volume → List Record
records_at None volume = []
records_at (Some slot) volume = unwrap_or (records_of (bytes_at volume (body_of slot))) []

-- the records of the body at which the gate is open; none where it is closed
unfoldable pub pending : Volume → List Record
pending volume = records_at (open_slot volume) volume

-- a name that one of those records changes
abbrev pub IsPending : Volume → Name → Type 0
IsPending volume name = IsAmong name (pending volume)

-- a name that stays while those records are carried out or the next body is written: the gate, the body at which it is open,
-- and each name outside the journal's folder that no record changes
abbrev pub IsFixed : Option Slot → List Record → Name → Type 0
IsFixed opened rs name = (name ≡ gate) ⊎ (((slot : Slot) × (opened ≡ Some slot) × (name ≡ body_of slot)) ⊎ ((is_ours name ≡ false) × (IsAmong name rs → ⊥)))

-- the body at which the gate is open is whole, and no name that stays is touched
pub record IsLive (m : Moment) : Type 0 where
  pub whole : (slot : Slot) → open_slot m.held ≡ Some slot → records_of (bytes_at m.held (body_of slot)) ≡ Some (pending m.held)
  pub fits : AllByRecursion Fits (pending m.held)
  pub rests : (name : Name) → IsFixed (open_slot m.held) (pending m.held) name → set.contains m.touched name ≡ false

-- and the tree has those records already
pub record IsClean (m : Moment) : Type 0 where
  pub live : IsLive m
  pub tree : stand m.held ≡ Some (tree_of m.held)

-- the body that is being written
abbrev pub spare_body : Volume → Name
spare_body volume = body_of (spare (open_slot volume))

-- its name, where the gate is open so: staging touches it alone
abbrev pub IsStaged : Option Slot → Name → Type 0
IsStaged opened name = name ≡ body_of (spare opened)

-- the names that a commit touches: the gate, the body that was staged, and the other body where the gate is closed
abbrev pub IsCommitted : Option Slot → Name → Type 0
IsCommitted opened name = (name ≡ gate) ⊎ (IsStaged opened name ⊎ ((opened ≡ None) × (name ≡ body_of (other (spare opened)))))

-- the names that a journal touches to come to rest: the gate and the body at which it isn't open; none where it is closed
abbrev pub IsRested : Option Slot → Name → Type 0
IsRested None name = ⊥
IsRested (Some slot) name = (name ≡ gate) ⊎ (name ≡ body_of (other slot))

-- the records that have been staged
abbrev pub staged : Seen → List Record
staged s = unwrap_or (records_of (bytes_at s.present.held (spare_body s.present.held) ++ 69 ∷ [])) []

-- records are being staged: the spare body spells them
pub record IsStaging (s : Seen) : Type 0 where
  pub clean : IsClean s.present
  pub text : at s.present.held (spare_body s.present.held) ≡ Some (records_text (staged s))
  pub fits : AllByRecursion Fits (staged s)

-- the spare body has these bytes more
abbrev pub Grows : List ℕ → Seen → Seen → Type 0
Grows bytes old new = at new.present.held (spare_body new.present.held) ≡ Some (bytes_at old.present.held (spare_body old.present.held) ++ bytes)

-- a host on which a write is being staged, of which so many bytes are still to come
pub record Writes : Type 0 where
  pub seen : Seen
  pub left : ℕ

-- the records that will have been staged once these bytes have come
abbrev pub coming : Writes → List ℕ → List Record
coming w bytes = unwrap_or (records_of ((bytes_at w.seen.present.held (spare_body w.seen.present.held) ++ bytes) ++ 69 ∷ [])) []

-- the spare body spells some records and a write up to the bytes that have come
pub record IsWriting (s : Seen) (left : ℕ) : Type 0 where
  pub clean : IsClean s.present
  pub before : List Record
  pub path : Name
  pub come : List ℕ
  pub text : at s.present.held (spare_body s.present.held) ≡ Some ((records_text before ++ write_head path (length come + left)) ++ come)
  pub fits : AllByRecursion Fits before
  pub target : is_target path ≡ true
  pub small : length come + left < 2 ^ 64

-- by which a write in pieces can be the value of a type
abbrev pub writes_code : Coded Writes
writes_code = code_by (Seen × ℕ) (coded× seen_code coded_ℕ) (λ w. (w.seen, w.left)) (λ p. record { seen = p.0; left = p.1 }) (λ _. refl)

-- a name that stays since base
abbrev pub Fixed : Seen → Name → Type 0
Fixed base name = IsFixed (open_slot base.present.held) (pending base.present.held) name

-- since base nothing that stays has changed or is touched
pub record Keeps (base s : Seen) : Type 0 where
  pub live : IsLive base.present
  pub apart : (name : Name) → Fixed base name → at s.present.held name ≡ at base.present.held name
  pub others : (name : Name) → Fixed base name → set.contains s.present.touched name ≡ false
  pub said : s.present.said ≡ base.present.said
  pub syncs : s.syncs ≡ base.syncs
  pub pictures : Stays base s

-- and the tree is as it was
pub record KeepsTree (base s : Seen) : Type 0 where
  pub keeps : Keeps base s
  pub outside : (name : Name) → is_ours name ≡ false → at s.present.held name ≡ at base.present.held name

-- and only names of base's records have changed or are touched
pub record Redoes (base s : Seen) : Type 0 where
  pub keeps : Keeps base s
  pub only : TouchesOnly (IsPending base.present.held) base s

-- nothing is touched
abbrev pub IsSettled : Seen → Type 0
IsSettled s = (name : Name) → set.contains s.present.touched name ≡ false

-- both bodies are whole, nothing but the gate is touched, and the tree is base's: the records of one slot are still to be
-- carried out, and those of the other change nothing
pub record Between (base : Seen) (slot : Slot) (rs old_rs : List Record) (s : Seen) : Type 0 where
  pub here : records_of (bytes_at s.present.held (body_of slot)) ≡ Some rs
  pub there : records_of (bytes_at s.present.held (body_of (other slot))) ≡ Some old_rs
  pub still : after old_rs (tree_of base.present.held) ≡ tree_of base.present.held
  pub tree : tree_of s.present.held ≡ tree_of base.present.held
  pub others : (name : Name) → (name ≡ gate → ⊥) → set.contains s.present.touched name ≡ false
  pub said : s.present.said ≡ base.present.said
  pub pictures : Since base s (IsBeforeOrAfter rs base)
