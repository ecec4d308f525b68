-- What `pinning` says and does.
use Rattle.std.specs.Prelude.{ℕ, Bool, true, false, if◌then◌else◌, List, [], ◌∷◌, codes, length, Option, Some, None, Result, Ok, Err}
use Rattle.std.specs.List.{list_any}
use Rattle.tl_model.specs.Volume.{Volume}
use Rattle.tl_kind.specs.declared.quantity.What.TheVariants.{Pins}
use Rattle.tl_entry.specs.declared.object.Object.{Object}
use Rattle.tl_pin.specs.declared.line.PinLine.{PinLine}
use Rattle.tl_pin.specs.Form.{pin_globs}
use Rattle.tl_pin.specs.Changes.{has_tag, has_glob, with_globs, without_glob, without_tag}
use Rattle.tl_pin.specs.Reading.{pins_text}
use Rattle.tl_action.specs.Texts.{texts}
use Rattle.tl_action.specs.declared.command.PinAction.{PinAction}
use Rattle.tl_action.specs.declared.command.PinAction.TheVariants.{Show, Add, Remove}
use Rattle.tl_tree.specs.declared.change.Part.TheVariants.{Write}
use Rattle.tl_refusal.specs.declared.refusal.Refusal.TheVariants.{NoPin}
use Rattle.tl_offer.specs.Pinned.{pins_path}
use Rattle.tl_command.specs.Runs.{Run, finished, saying, refused, limited, stepping}

-- the line that acknowledges a change of the pins
abbrev pub pinning_label : List ℕ
pinning_label = codes "step 1/1 pinning done\n"

-- the run that writes pins in one step, where their text is within its limit
abbrev pub write_run : List PinLine → Volume → List Object → Run
write_run pins tree entries =
    limited Pins (length (pins_text pins)) (stepping entries (Write pins_path (pins_text pins) ∷ []) pinning_label finished tree)

-- pins without some globs of a tag, taken away one after the other; or the first glob that isn't there
abbrev pub without_globs : List ℕ → List (List ℕ) → List PinLine → Result (List PinLine) (List ℕ)
without_globs tag [] pins = Ok pins
without_globs tag (glob ∷ globs) pins =
    if list_any (has_glob tag glob) pins then without_globs tag globs (without_glob tag glob pins) else Err glob

-- pins without all those of a tag; or an empty glob where there is none
abbrev pub without_all : List ℕ → List PinLine → Result (List PinLine) (List ℕ)
without_all tag pins = if list_any (has_tag tag) pins then Ok (without_tag tag pins) else Err []

-- the run that writes what is left of the pins, or refuses the glob of a tag that isn't there
abbrev pub left_run : List ℕ → Result (List PinLine) (List ℕ) → Volume → List Object → Run
left_run tag (Ok pins) tree entries = write_run pins tree entries
left_run tag (Err glob) tree entries = refused (NoPin tag glob)

-- a run over the globs that words give; nothing is done over texts that no pin has as globs, which no words give
abbrev pub over_globs : (List (List ℕ) → Run) → Option (List (List ℕ)) → Run
over_globs go None = finished
over_globs go (Some globs) = go globs

-- the run of `pinning` over a tree with these entries and pins
abbrev pub pinning_run : PinAction → Volume → List Object → List PinLine → Run
pinning_run Show tree entries pins = saying (pins_text pins)
pinning_run (Add tag globs) tree entries pins = over_globs (λ gs. write_run (with_globs tag gs pins) tree entries) (pin_globs globs)
pinning_run (Remove tag globs false) tree entries pins = over_globs (λ gs. left_run tag (without_globs tag gs pins) tree entries) (pin_globs globs)
pinning_run (Remove tag globs true) tree entries pins = left_run tag (without_all tag pins) tree entries
