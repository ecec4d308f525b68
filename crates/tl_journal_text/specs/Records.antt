-- The records of a journal: what they do to a volume, and how they are written.
use Rattle.std.specs.Prelude.{◌≡◌, ◌⊎◌, ◌<◌, ◌^◌, ℕ, Bool, true, not, ◌&&◌, List, [], ◌∷◌, ◌++◌, length, nat_eq, bytes_eq, codes}
use Rattle.std.specs.List.{starts_with}
use Rattle.std.specs.Option.{is_none}
use Rattle.std.specs.Int.{w16, w64, to_be_bytes}
use Rattle.std.specs.FinMap as map
use Rattle.tl_model.specs.Volume.{Name, Volume}
use Rattle.tl_path.specs.Path.{path_fault}

-- a change of one path
pub data Record : Type 0 where
  Remove : (name : Name) → Record
  Write : (name : Name) (bytes : List ℕ) → Record

-- the path that a record changes
abbrev pub name_of : Record → Name
name_of (Remove name) = name
name_of (Write name bytes) = name

-- a name below the journal's folder
abbrev pub is_ours : Name → Bool
is_ours name = starts_with nat_eq name (codes "tlpkg/journal/")

-- a name that is neither the journal's folder nor below it
abbrev pub is_outside : Name → Bool
is_outside name = not (is_ours name) && not (bytes_eq name (codes "tlpkg/journal"))

-- a record may change this name: it is a path outside the journal's folder
unfoldable pub is_target : Name → Bool
is_target name = is_none (path_fault name) && is_outside name

-- a record that can be written: its name is one that it may change, and its bytes are no more than a number of 64 bits says
abbrev pub Fits : Record → Type 0
Fits (Remove name) = is_target name ≡ true
Fits (Write name bytes) = (is_target name ≡ true) × (length bytes < 2 ^ 64)

-- what a record makes of a volume
abbrev pub after_one : Record → Volume → Volume
after_one (Remove name) volume = map.remove volume name
after_one (Write name bytes) volume = map.insert volume name bytes

-- what records make of a volume, in order
abbrev pub after : List Record → Volume → Volume
after [] volume = volume
after (r ∷ rs) volume = after rs (after_one r volume)

-- one of the records changes this name
abbrev pub IsAmong : Name → List Record → Type 0
IsAmong name [] = ⊥
IsAmong name (r ∷ rs) = (name ≡ name_of r) ⊎ IsAmong name rs

-- a record's kind and path
abbrev pub head_of : ℕ → Name → List ℕ
head_of kind name = kind ∷ to_be_bytes w16 (length name) ++ name

-- a write up to its bytes, of which so many come
abbrev pub write_head : Name → ℕ → List ℕ
write_head name size = head_of 87 name ++ to_be_bytes w64 size

-- how a record is written
abbrev pub text_of : Record → List ℕ
text_of (Remove name) = head_of 82 name
text_of (Write name bytes) = write_head name (length bytes) ++ bytes

-- how records are written, in order, without the end
abbrev pub records_text : List Record → List ℕ
records_text [] = []
records_text (r ∷ rs) = text_of r ++ records_text rs
