-- What the reader of a body answers.
use Rattle.std.specs.Prelude.{◌≡◌, ◌≤◌, ◌<◌, ◌+◌, ℕ, true, List, take, drop}
use Rattle.tl_model.specs.Volume.{Name}
use Rattle.tl_journal_text.specs.Records.{Remove, Write, is_target}
use Rattle.tl_journal_text.specs.Body.{Next, Ends, Faulty, Takes, next, named, sized}
use Rattle.tl_journal.specs.declared.fields.Item.{Item}
use Rattle.tl_journal.specs.declared.fields.Item.TheVariants as items
use Rattle.tl_journal.specs.declared.fields.Field.{Field}
use Rattle.tl_journal.specs.declared.fields.Field.TheVariants as fields

-- what stands at a place of the text
abbrev pub IsItem : List ℕ → ℕ → List ℕ → Item → Type 0
IsItem text from name items.End = next from (drop from text) ≡ Ends
IsItem text from name (items.Faulty place) = next from (drop from text) ≡ Faulty place
IsItem text from name (items.Remove count rest) = next from (drop from text) ≡ Takes (Remove (take count name)) (drop rest text)
IsItem text from name (items.Write count start size) = next from (drop from text) ≡ Takes (Write (take count name) (take size (drop start text))) (drop (start + size) text)

-- where the record is, of a text of so many bytes, and that its name is one that a record may change
abbrev pub IsInside : ℕ → ℕ → List ℕ → Item → Type 0
IsInside size from name items.End = Unit {0}
IsInside size from name (items.Faulty place) = Unit {0}
IsInside size from name (items.Remove count rest) = (from < rest) × (rest ≤ size) × (count ≤ 1024) × (is_target (take count name) ≡ true)
IsInside size from name (items.Write count start len) = (from < start + len) × (start + len ≤ size) × (count ≤ 1024) × (is_target (take count name) ≡ true)

-- where the name is
abbrev pub IsFieldInside : ℕ → ℕ → List ℕ → Field → Type 0
IsFieldInside size from name (fields.Whole count) = (from + 2 + count ≤ size) × (count ≤ 1024) × (is_target (take count name) ≡ true)
IsFieldInside size from name (fields.Faulty place) = Unit {0}

-- where the bytes are that a size announces
abbrev pub IsSizeInside : ℕ → ℕ → Field → Type 0
IsSizeInside size from (fields.Whole count) = from + 8 + count ≤ size
IsSizeInside size from (fields.Faulty place) = Unit {0}

-- where the bytes are of a record that writes a name of so many bytes
abbrev pub IsBytesInside : ℕ → ℕ → ℕ → Item → Type 0
IsBytesInside size from name items.End = ⊥
IsBytesInside size from name (items.Faulty place) = Unit {0}
IsBytesInside size from name (items.Remove count rest) = ⊥
IsBytesInside size from name (items.Write count start len) = (from < start + len) × (start + len ≤ size) × (count ≡ name)

-- a name of the text, and what is made of it
abbrev pub NameGoes : List ℕ → ℕ → List ℕ → Field → Type 0
NameGoes text from buffer (fields.Faulty place) = (go : Name → List ℕ → Next) → named from (drop from text) go ≡ Faulty place
NameGoes text from buffer (fields.Whole count) = (go : Name → List ℕ → Next) → named from (drop from text) go ≡ go (take count buffer) (drop (from + 2 + count) text)

-- a size of the text, and what is made of it
abbrev pub SizeGoes : List ℕ → ℕ → Field → Type 0
SizeGoes text from (fields.Faulty place) = (go : List ℕ → List ℕ → Next) → sized from (drop from text) go ≡ Faulty place
SizeGoes text from (fields.Whole count) = (go : List ℕ → List ℕ → Next) → sized from (drop from text) go ≡ go (take count (drop (from + 8) text)) (drop (from + 8 + count) text)

-- the rest of a record that writes this name, which is the front of the buffer
abbrev pub IsWritten : List ℕ → ℕ → Name → List ℕ → Item → Type 0
IsWritten text from name buffer items.End = ⊥
IsWritten text from name buffer (items.Faulty place) = sized from (drop from text) (λ bytes others. Takes (Write name bytes) others) ≡ Faulty place
IsWritten text from name buffer (items.Remove count rest) = ⊥
IsWritten text from name buffer (items.Write count start size) = (take count buffer ≡ name) × (sized from (drop from text) (λ bytes others. Takes (Write name bytes) others) ≡ Takes (Write name (take size (drop start text))) (drop (start + size) text))
