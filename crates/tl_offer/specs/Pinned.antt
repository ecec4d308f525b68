-- The pins of a tree, as a command reads them.
use Rattle.std.specs.Prelude.{◌≡◌, ℕ, Bool, nat_lt, if◌then◌else◌, List, [], codes, length, Option, Some, None, Result, Ok, Err}
use Rattle.tl_model.specs.Volume.{Name, Volume, at}
use Rattle.tl_model.specs.Seen.{Told}
use Rattle.tl_kind.specs.Quantities.{limit_of}
use Rattle.tl_kind.specs.declared.quantity.What.TheVariants.{Pins}
use Rattle.tl_journal_text.specs.Stand.{stand}
use Rattle.tl_pin.specs.declared.line.PinLine.{PinLine}
use Rattle.tl_pin.specs.Reading.{pins_of}
use Rattle.tl_tree.specs.Planted.{Planted}
use Rattle.tl_refusal.specs.declared.refusal.Refusal.{Refusal}
use Rattle.tl_refusal.specs.declared.refusal.Refusal.TheVariants.{BadPins, TooLarge}
use Rattle.tl_command.specs.Performs.{Advances}
use Rattle.tl_command.specs.Runs.{Run, refused}

-- the path of the pins
abbrev pub pins_path : Name
pins_path = codes "tlpkg/pinning.txt"

-- what a text of pins reads as, or its refusal
abbrev pub pins_or_refusal : Result (List PinLine) ℕ → Result (List PinLine) Refusal
pins_or_refusal (Ok pins) = Ok pins
pins_or_refusal (Err line) = Err (BadPins line)

-- the pins that a file holds, none where it is absent; or its refusal, for its length first
abbrev pub pins_held : Option (List ℕ) → Result (List PinLine) Refusal
pins_held None = Ok []
pins_held (Some text) = if nat_lt (limit_of Pins) (length text) then Err (TooLarge Pins (limit_of Pins)) else pins_or_refusal (pins_of text)

-- the pins of a tree, or the refusal of their file
abbrev pub pins_in : Volume → Result (List PinLine) Refusal
pins_in tree = pins_held (at tree pins_path)

-- a run over what was read, where that isn't refused
abbrev pub over_read : {A : Type 0} → (A → Run) → Result A Refusal → Run
over_read go (Ok found) = go found
over_read go (Err refusal) = refused refusal

-- a run over the pins of a tree
abbrev pub over_pins : (List PinLine → Run) → Volume → Run
over_pins go tree = over_read go (pins_in tree)

-- the pins of a tree were read: nothing else was done
pub record LoadsPins (tells : Bool) (old new : Planted) (pins : List PinLine) : Type 0 where
  pub quiet : Advances tells (λ _. []) old.seen new.seen
  pub db : new.db ≡ old.db
  pub read : Told tells ((tree : Volume) → stand old.seen.present.held ≡ Some tree → pins_in tree ≡ Ok pins)
