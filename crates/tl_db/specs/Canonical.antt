-- Texts in the canonical form of a database.
use Rattle.std.specs.Prelude.{◌≡◌, ℕ, ◌≤◌, true, List, length, Ok, All}
use Rattle.tl_model.specs.Acks.{IsPlain}
use Rattle.tl_entry.specs.Rising.{comes_before, is_rising}
use Rattle.tl_entry.specs.declared.object.Object.{Object}
use Rattle.tl_written.specs.Rises.{IsFront, OneStands}
use Rattle.tl_written.specs.Pieces.{IsFormed, IsEntry}
use Rattle.tl_db.specs.Reading.{db_of, IsRead}
use Rattle.tl_db.specs.Text.{entry_text, db_text}

-- a text is the written text of what some source reads as
abbrev pub IsRewritten : List ℕ → List ℕ → Type 0
IsRewritten source text = (objects : List Object) × (IsRead source objects × (text ≡ db_text objects))

-- a text is the written text of entries that rise by their names and are within their limit
pub record IsCanonical (text : List ℕ) : Type 0 where
  pub objects : List Object
  pub each : All IsFormed objects
  pub rises : is_rising (λ (o : Object). o.name) objects ≡ true
  pub same : text ≡ db_text objects
  pub within : length objects ≤ 65536

-- a text in canonical form reads as its entries, and has no acknowledged line
pub record IsTold (text : List ℕ) : Type 0 where
  pub canonical : IsCanonical text
  pub reads : db_of text ≡ Ok canonical.objects
  pub plain : IsPlain text

-- an entry with a name that is greater than the last one stands at the front of a text as it is written, and then a rest
pub record IsBehind (last name text rest : List ℕ) : Type 0 where
  pub entry : OneStands (λ (o : Object). o.name) entry_text IsEntry name text rest
  pub greater : comes_before last name ≡ true

-- so many entries that rise up to a name stand at the front of a text as they are written, and then a rest
pub record AreInFront (text rest last : List ℕ) (count : ℕ) : Type 0 where
  pub front : IsFront (λ (o : Object). o.name) entry_text IsEntry text rest last
  pub counted : count ≡ length front.items
