-- The pins of a tree, as parts of a command.
use Rattle.std.proofs.Common.{◌≡◌, ◌≤◌, ℕ, Bool, true, false, cond, List, [], length, nat_lt, Option, Some, None, IfSome, Result, Ok, Err, refl, sym, ◌∙◌, ap, arith}
use Rattle.tl_model.specs.Volume.{Volume, at}
use Rattle.tl_model.specs.Seen.{Seen}
use Rattle.tl_kind.specs.Quantities.{limit_of}
use Rattle.tl_kind.specs.declared.quantity.What.TheVariants.{Pins}
use Rattle.tl_pin.specs.declared.line.PinLine.{PinLine}
use Rattle.tl_pin.specs.Reading.{pins_of}
use Rattle.tl_tree.specs.Planted.{Planted}
use Rattle.tl_refusal.specs.declared.refusal.Refusal.{Refusal}
use Rattle.tl_refusal.specs.declared.refusal.Refusal.TheVariants.{TooLarge}
use Rattle.tl_command.specs.declared.ending.Ending.{Ending}
use Rattle.tl_command.specs.Endings.{Faults}
use Rattle.tl_command.specs.Loaded.{Reads}
use Rattle.tl_command.specs.Performs.{Performs}
use Rattle.tl_offer.specs.Pinned.{pins_path, pins_or_refusal, pins_held, pins_in, over_read, over_pins, LoadsPins}
use Rattle.tl_command.specs.Runs.{Run, AreLabelled, refused, over_bytes, over_file}
use Rattle.tl_command.proofs.Joins.{performs_quiet, performs_same}
use Rattle.std.proofs.lemmas.Bool.Decides.{nat_tests}

-- what the file of pins holds, where it isn't too large
abbrev pub pins_found : Option (List ℕ) → Result (List PinLine) Refusal
pins_found None = Ok []
pins_found (Some text) = pins_or_refusal (pins_of text)

-- a run over the pins is one over their file
pub over-file : (go : List PinLine → Run) (tree : Volume) → over_file Pins pins_path (λ found. over_read go (pins_found found)) tree ≡ over_pins go tree
over-file go tree = by (at tree pins_path)
  where
    large : (text : List ℕ) (past : Bool)
        → cond past (refused (TooLarge Pins (limit_of Pins))) (over_read go (pins_or_refusal (pins_of text))) ≡ over_read go (cond past (Err (TooLarge Pins (limit_of Pins))) (pins_or_refusal (pins_of text)))
    large text true = refl
    large text false = refl

    by : (found : Option (List ℕ)) → over_bytes Pins (λ found. over_read go (pins_found found)) found ≡ over_read go (pins_held found)
    by None = refl
    by (Some text) = large text (nat_lt (limit_of Pins) (length text))

not_above : (a b : ℕ) → b ≤ a → nat_lt a b ≡ false
not_above a b le = grind (arith, nat_tests, le)

held-within : (found : Option (List ℕ)) → IfSome found (λ bytes. length bytes ≤ limit_of Pins) → pins_held found ≡ pins_found found
held-within None within = refl
held-within (Some text) within =
    ap (λ (past : Bool). cond past (Err (TooLarge Pins (limit_of Pins))) (pins_or_refusal (pins_of text))) (not_above (limit_of Pins) (length text) within)

-- the pins of a tree whose file was read
pub pins-read : (tells : Bool) (old new : Planted) (found : Option (List ℕ)) (pins : List PinLine) → Reads tells Pins pins_path old new found → pins_found found ≡ Ok pins → LoadsPins tells old new pins
pins-read tells old new found pins reads is = record {
  quiet = reads.quiet;
  db = reads.db;
  read = λ t tree stood. ap pins_held (reads.holds t tree stood) ∙ held-within found reads.within ∙ is;
}

module _ {T : Type 0} (tells : Bool) (seen : T → Seen) (more : ℕ) (before after : Faults) (ending : Ending) (state : Result Seen T) (old new : Planted) where
  -- what is left of a command behind the pins
  pub performs_pinned : (pins : List PinLine) (go : Volume → List PinLine → Run) → LoadsPins tells old new pins → Performs tells seen (λ tree. go tree pins) more new.seen before after ending state
      → Performs tells seen (λ tree. over_pins (go tree) tree) more old.seen before after ending state
  performs_pinned pins go reads near =
      performs_same tells seen more old.seen before after ending state (λ tree. go tree pins) (λ tree. over_pins (go tree) tree)
      (λ t tree stood. sym (ap (over_read (go tree)) (reads.read t tree stood)))
      (performs_quiet tells seen more old.seen before after ending state (λ tree. go tree pins) new.seen reads.quiet near)

  -- pins that are refused
  pub performs_unpinned : (found : Option (List ℕ)) (refusal : Refusal) (go : Volume → List PinLine → Run) → Reads tells Pins pins_path old new found → pins_found found ≡ Err refusal
      → Performs tells seen (λ _. refused refusal) more new.seen before after ending state → Performs tells seen (λ tree. over_pins (go tree) tree) more old.seen before after ending state
  performs_unpinned found refusal go reads is near =
      performs_same tells seen more old.seen before after ending state (λ _. refused refusal) (λ tree. over_pins (go tree) tree)
      (λ t tree stood. sym (ap (over_read (go tree)) (ap pins_held (reads.holds t tree stood) ∙ held-within found reads.within ∙ is)))
      (performs_quiet tells seen more old.seen before after ending state (λ _. refused refusal) new.seen reads.quiet near)

  -- a command that was given up behind them
  pub performs_unfinished : (found : Option (List ℕ)) (command : Volume → Run) → Reads tells Pins pins_path old new found → Performs tells seen command more new.seen before after ending state
      → Performs tells seen command more old.seen before after ending state
  performs_unfinished found command reads near = performs_quiet tells seen more old.seen before after ending state command new.seen reads.quiet near

  -- a command over the file of pins is one over the pins
  pub performs_file : (go : Volume → List PinLine → Run) → Performs tells seen (λ tree. over_file Pins pins_path (λ found. over_read (go tree) (pins_found found)) tree) more old.seen before after ending state
      → Performs tells seen (λ tree. over_pins (go tree) tree) more old.seen before after ending state
  performs_file go near =
      performs_same tells seen more old.seen before after ending state (λ tree. over_file Pins pins_path (λ found. over_read (go tree) (pins_found found)) tree) (λ tree. over_pins (go tree) tree)
      (λ t tree stood. over-file (go tree) tree) near

-- the steps of a run over the pins are labelled where those over any pins are
pub labelled-pinned : (go : List PinLine → Run) → ((pins : List PinLine) → AreLabelled (go pins).events) → (tree : Volume) → AreLabelled (over_pins go tree).events
labelled-pinned go each tree = by (pins_in tree)
  where
    by : (found : Result (List PinLine) Refusal) → AreLabelled (over_read go found).events
    by (Ok pins) = each pins
    by (Err refusal) = tt
