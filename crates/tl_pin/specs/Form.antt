-- The form of a pin's globs, and blanks round a text.
use Rattle.std.specs.Prelude.{◌≡◌, ℕ, ◌<◌, ◌==◌, ◌&&◌, not, nat_le, if◌then◌else◌, Bool, true, List, [], ◌∷◌, length, reverse, Option, Some, None}
use Rattle.std.specs.List.{list_all}
use Rattle.std.specs.Str.{bytes_eq}
use Rattle.tl_model.specs.Words.{is_blank}

-- a byte of a pin's glob: from 0x21 to 0x7E, and neither ',' nor ':'
abbrev pub is_pin_byte : ℕ → Bool
is_pin_byte b = (nat_le 33 b && nat_le b 126) && (not (b == 44) && not (b == 58))

-- whether a text has the form of a pin's glob: 1 to 128 such bytes
abbrev pub is_pin_glob : List ℕ → Bool
is_pin_glob text = nat_le 1 (length text) && (nat_le (length text) 128 && list_all is_pin_byte text)

-- globs that a pin may have: one at least, each of the form
pub record ArePinGlobs (globs : List (List ℕ)) : Type 0 where
  pub some : 0 < length globs
  pub form : list_all is_pin_glob globs ≡ true

-- globs without the first one that is the given one
abbrev pub without_first : List ℕ → List (List ℕ) → List (List ℕ)
without_first glob [] = []
without_first glob (g ∷ globs) = if bytes_eq g glob then globs else g ∷ without_first glob globs

-- a text without the blanks at its front
abbrev pub without_blanks_before : List ℕ → List ℕ
without_blanks_before [] = []
without_blanks_before (b ∷ text) = if is_blank b then without_blanks_before text else b ∷ text

-- a text without the blanks at both ends
abbrev pub trimmed : List ℕ → List ℕ
trimmed text = reverse (without_blanks_before (reverse (without_blanks_before text)))

-- texts as the globs of a pin, where each has the form
abbrev pub globs_of : List (List ℕ) → Option (List (List ℕ))
globs_of texts = if list_all is_pin_glob texts then Some texts else None

-- texts as the globs of a pin, where there is one and each has the form
abbrev pub pin_globs : List (List ℕ) → Option (List (List ℕ))
pin_globs [] = None
pin_globs (text ∷ texts) = globs_of (text ∷ texts)
