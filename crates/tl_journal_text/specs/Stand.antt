-- What a volume stands for.
use Rattle.std.specs.Prelude.{◌≡◌, ◌⊎◌, ℕ, not, List, [], ◌++◌, take, Option, Some, None}
use Rattle.std.specs.Option.{option_map, unwrap_or}
use Rattle.std.specs.FinMap as map
use Rattle.tl_model.specs.Volume.{Name, Volume, at}
use Rattle.tl_model.specs.Seen.{Seen, Since, IsPicture, at_rest}
use Rattle.tl_journal_text.specs.Slots.{open_slot, body_of}
use Rattle.tl_journal_text.specs.Records.{Record, is_ours, after}
use Rattle.tl_journal_text.specs.Body.{records_of, fault_of}

-- all names but those below the journal's folder
abbrev pub tree_of : Volume → Volume
tree_of volume = map.retain_keys volume (λ name. not (is_ours name))

-- what a name holds, and no bytes where it is absent
abbrev pub bytes_at : Volume → Name → List ℕ
bytes_at volume name = unwrap_or (at volume name) []

-- the tree that an image stands for, which recovery makes of it: its tree where the gate is closed; where it is open at a
-- slot, its tree with the records of that slot's body; nothing where that body isn't in the grammar
unfoldable pub stand : Volume → Option Volume
stand image = elim (open_slot image) [
  | None ↦ Some (tree_of image)
  | Some slot ↦ option_map (λ rs. after rs (tree_of image)) (records_of (bytes_at image (body_of slot)))
]

-- where the gate is open at a slot, the place of the first field of that slot's body that is cut or wrong, if one is
unfoldable pub journal_fault : Volume → Option ℕ
journal_fault image = elim (open_slot image) [
  | None ↦ None
  | Some slot ↦ fault_of (bytes_at image (body_of slot))
]

-- each picture since then stands for what the host stood for then, with no more bytes said
abbrev pub Stays : Seen → Seen → Type 0
Stays old new = Since old new (λ image said. (stand image ≡ stand old.present.held) × (said ≡ old.present.said))

-- a picture stands for the tree of old, or for that tree with the records
abbrev pub IsBeforeOrAfter : List Record → Seen → Volume → List ℕ → Type 0
IsBeforeOrAfter rs old image said =
    ((stand image ≡ Some (tree_of old.present.held)) ⊎ (stand image ≡ Some (after rs (tree_of old.present.held)))) × (said ≡ old.present.said)

-- a picture stands for what old stood for, or it is one that could be left at old
abbrev pub IsResumed : Seen → Volume → List ℕ → Type 0
IsResumed old image said = ((stand image ≡ stand old.present.held) × (said ≡ old.present.said)) ⊎ IsPicture (at_rest old.present) image said

-- a picture stands for what old stood for, with a front of these bytes said
abbrev pub SaysFront : List ℕ → Seen → Volume → List ℕ → Type 0
SaysFront bytes old image said = (stand image ≡ stand old.present.held) × ((count : ℕ) × (said ≡ old.present.said ++ take count bytes))
