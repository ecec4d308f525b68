-- A step whose bytes come later, as it is seen.
use Rattle.std.specs.Prelude.{◌≡◌, ◌==◌, ◌-◌, ◌&&◌, ◌++◌, ℕ, Bool, true, false, not, nat_le, if◌then◌else◌, List, [], ◌∷◌, length, take, replicate, Result, refl}
use Rattle.std.specs.FinSet as set
use Rattle.std.specs.Coded.{Coded, code_by, coded×, coded_ℕ, coded_list, coded_bool}
use Rattle.tl_model.specs.Left.{left}
use Rattle.tl_model.specs.Volume.{Name, Names, names_code}
use Rattle.tl_model.specs.Seen.{Seen, seen_code}
use Rattle.tl_journal_text.specs.Records.{Record, Remove, Write}
use Rattle.tl_journal.specs.States.{Writes, coming as staged_with}
use Rattle.tl_journal.specs.declared.lost.Lost.{Lost}
use Rattle.tl_entry.specs.declared.object.Object.{Object}
use Rattle.tl_tree.specs.Staged.{has_name}
use Rattle.tl_tree.specs.Changes.{later}
use Rattle.tl_tree.specs.Planted.{Planted}
use Rattle.tl_tree.specs.declared.change.Part.{Part}

-- a step: the host, the entries of the old tree, the change, the paths that haven't come of those whose bytes come later, how many
-- bytes the last file lacks, and whether a call was out of place
pub record Opened : Type 0 where
  pub seen : Seen
  pub db : List Object
  pub parts : List Part
  pub label : List ℕ
  pub awaits : Names
  pub lacks : ℕ
  pub astray : Bool

-- by which a step can be the value of a type, where an entry and a part of a change can
abbrev pub opened_code : Coded Object → Coded Part → Coded Opened
opened_code object_code part_code =
    code_by (Seen × (List Object × (List Part × (List ℕ × (Names × (ℕ × Bool))))))
    (coded× seen_code (coded× (coded_list object_code) (coded× (coded_list part_code) (coded× (coded_list coded_ℕ) (coded× names_code (coded× coded_ℕ coded_bool))))))
    (λ s. (s.seen, (s.db, (s.parts, (s.label, (s.awaits, (s.lacks, s.astray)))))))
    (λ p. record { seen = p.0; db = p.1.0; parts = p.1.1.0; label = p.1.1.1.0; awaits = p.1.1.1.1.0; lacks = p.1.1.1.1.1.0; astray = p.1.1.1.1.1.1 })
    (λ _. refl)

-- the host that a call over a step leaves
abbrev pub left_step : {H E : Type 0} → (H → Seen) → Result Opened (Lost H E) → Seen
left_step {H} {E} seen result = left (λ (step : Opened). step.seen) (λ (lost : Lost H E). seen lost.host) result

-- a step of a tree's change as it begins, over a host
abbrev pub begun : Planted → List Part → List ℕ → Seen → Opened
begun tree parts label seen = record { seen = seen; db = tree.db; parts = parts; label = label; awaits = set.from_list (later parts); lacks = 0; astray = false }

-- a step over a host
abbrev pub over : Seen → Opened → Opened
over seen step = record step { seen = seen }

-- whether a file with this path may begin: no call was out of place, the last file lacks nothing, and the path is awaited
abbrev pub may_begin : Name → Opened → Bool
may_begin path step = not step.astray && ((step.lacks == 0) && set.contains step.awaits path)

-- a step after a file of so many bytes was begun; where it may not, the call is out of place
abbrev pub with_file : Name → ℕ → Opened → Opened
with_file path size step = if may_begin path step then record step { awaits = set.remove step.awaits path; lacks = size } else record step { astray = true }

-- whether so many bytes may come: no call was out of place, and the last file lacks them
abbrev pub may_come : ℕ → Opened → Bool
may_come count step = not step.astray && nat_le count step.lacks

-- a step after so many bytes came; where they may not, the call is out of place
abbrev pub with_piece : ℕ → Opened → Opened
with_piece count step = if may_come count step then record step { lacks = step.lacks - count } else record step { astray = true }

-- files with more bytes at the end of the last
abbrev pub with_bytes : List ℕ → List (Name × List ℕ) → List (Name × List ℕ)
with_bytes bytes [] = []
with_bytes bytes (file ∷ []) = (file.0, file.1 ++ bytes) ∷ []
with_bytes bytes (file ∷ more ∷ files) = file ∷ with_bytes bytes (more ∷ files)

-- files with so many bytes less at the end of the last
abbrev pub less_bytes : ℕ → List (Name × List ℕ) → List (Name × List ℕ)
less_bytes count [] = []
less_bytes count (file ∷ []) = (file.0, take (length file.1 - count) file.1) ∷ []
less_bytes count (file ∷ more ∷ files) = file ∷ less_bytes count (more ∷ files)

-- the files that records write at some of the names
abbrev pub files_at : List Name → List Record → List (Name × List ℕ)
files_at names [] = []
files_at names (Remove name ∷ records) = files_at names records
files_at names (Write name bytes ∷ records) = if has_name name names then (name, bytes) ∷ files_at names records else files_at names records

-- the files given for a step so far, in the order in which they came, the last one as far as it has come: those that are staged at
-- paths whose bytes come later, less the bytes that are still to come
unfoldable pub given : Opened → List (Name × List ℕ)
given step =
    let writes : Writes = record { seen = step.seen; left = step.lacks } in
    less_bytes step.lacks (files_at (later step.parts) (staged_with writes (replicate step.lacks 0)))

-- the files given after a file was begun
abbrev pub given_file : Name → Opened → List (Name × List ℕ)
given_file path step = if may_begin path step then given step ++ (path, []) ∷ [] else given step

-- the files given after bytes came
abbrev pub given_piece : List ℕ → Opened → List (Name × List ℕ)
given_piece bytes step = if may_come (length bytes) step then with_bytes bytes (given step) else given step

-- every file has come whole, and no call was out of place
pub record IsWhole (step : Opened) : Type 0 where
  pub all : step.awaits ≡ set.empty
  pub last : step.lacks ≡ 0
  pub in_place : step.astray ≡ false
