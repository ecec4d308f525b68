-- Pins as text, and the pins that a text reads as.
use Rattle.std.specs.Prelude.{◌≡◌, ℕ, ◌+◌, ◌==◌, ◌&&◌, ◌||◌, not, if◌then◌else◌, Bool, true, List, ◌∷◌, ◌++◌, slice_index, map, filter, position, Option, Some, None, is_none, option_map, Result, Ok, Err}
use Rattle.std.specs.List.{list_all, slice_split, before_first, after_first, join_with_byte, filter_map}
use Rattle.tl_model.specs.Lines.{lines, text_of}
use Rattle.tl_model.specs.Words.{is_blank}
use Rattle.tl_path.specs.Names.{is_tag}
use Rattle.tl_pin.specs.declared.line.PinLine.{PinLine}
use Rattle.tl_pin.specs.declared.pins.PinsError.{PinsError}
use Rattle.tl_pin.specs.declared.pins.PinsError.TheVariants.{BadPins, NoMemory}
use Rattle.tl_pin.specs.Form.{is_pin_glob, ArePinGlobs, trimmed}

-- a pin's parts have their forms
pub record IsPin (pin : PinLine) : Type 0 where
  pub tag : is_tag pin.tag ≡ true
  pub globs : ArePinGlobs pin.globs

-- a pin with this tag and these globs, where they have their forms
abbrev pub pin_with : List ℕ → List (List ℕ) → Option PinLine
pin_with tag globs = if is_tag tag && list_all is_pin_glob globs then Some (record { tag = tag; globs = globs }) else None

-- the pin that a line has: its tag stands before the first colon and its globs behind it, parted by commas, with blanks round
-- each or none; None where one of them hasn't its form. Without a colon there is an empty glob behind it, which has none
abbrev pub pin_of : List ℕ → Option PinLine
pin_of line =
    pin_with (trimmed (before_first (λ b. b == 58) line)) (map trimmed (slice_split (λ b. b == 44) (after_first (λ b. b == 58) line)))

-- whether a line is passed over: it has blanks alone, or begins with '#'
abbrev pub is_passed_over : List ℕ → Bool
is_passed_over line = list_all is_blank line || slice_index line 0 == 35

-- whether a line can't stand among pins
abbrev pub is_bad_line : List ℕ → Bool
is_bad_line line = not (is_passed_over line) && is_none (pin_of line)

-- the pins that a text reads as: those of its lines that aren't passed over, each of which has one
abbrev pub ReadsPins : List ℕ → List PinLine → Type 0
ReadsPins text pins = map pin_of (filter (λ line. not (is_passed_over line)) (lines text)) ≡ map (λ pin. Some pin) pins

-- pins, or the number of a line behind so many others
abbrev pub unless_bad : Option ℕ → List PinLine → Result (List PinLine) ℕ
unless_bad None pins = Ok pins
unless_bad (Some before) pins = Err (before + 1)

-- the pins that a text reads as, or the number of its first line that can't stand there, from 1
abbrev pub pins_of : List ℕ → Result (List PinLine) ℕ
pins_of text = unless_bad (position is_bad_line (lines text)) (filter_map pin_of (filter (λ line. not (is_passed_over line)) (lines text)))

-- the cause of each refusal of pins: the number of the first line that can't stand there, from 1; want of memory has none
abbrev pub IsPinsError : List ℕ → PinsError → Type 0
IsPinsError text (BadPins line) = option_map (λ before. before + 1) (position is_bad_line (lines text)) ≡ Some line
IsPinsError text NoMemory = Unit {0}

-- a pin as it is written: its tag, a colon, and its globs with a comma between two
abbrev pub pin_text : PinLine → List ℕ
pin_text pin = pin.tag ++ 58 ∷ join_with_byte 44 pin.globs

-- the text of pins: each on a line of its own
abbrev pub pins_text : List PinLine → List ℕ
pins_text pins = text_of (map pin_text pins)
