-- Records that are being carried out.
use Rattle.std.specs.Prelude.{◌≡◌, ℕ, List, drop, Option, Some, None}
use Rattle.tl_model.specs.Volume.{Volume}
use Rattle.tl_model.specs.Seen.{Seen}
use Rattle.tl_journal_text.specs.Records.{Record, name_of, IsAmong, after_one}
use Rattle.tl_journal_text.specs.Body.{Next, Ends, Faulty, Takes, Stops, next}
use Rattle.tl_journal.specs.States.{pending}

-- the record that stands next, if one does, is one of those at which base's gate is open
abbrev pub MayAct : Seen → Next → Type 0
MayAct base Ends = Unit {0}
MayAct base (Faulty place) = Unit {0}
MayAct base (Takes r rest) = IsAmong (name_of r) (pending base.present.held)

-- the record at a place of the text was carried out, and the next is there
pub record Acts (text : List ℕ) (from rest : ℕ) (held new : Volume) : Type 0 where
  pub r : Record
  pub reads : next from (drop from text) ≡ Takes r (drop rest text)
  pub does : new ≡ after_one r held

-- a record was carried out and its rest given, or none stands there
abbrev pub Acted : List ℕ → ℕ → Volume → Volume → Option ℕ → Type 0
Acted text from held new None = Stops (next from (drop from text)) × (new ≡ held)
Acted text from held new (Some rest) = Acts text from rest held new
