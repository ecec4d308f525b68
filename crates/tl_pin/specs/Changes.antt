-- Pins with more globs, and with fewer.
use Rattle.std.specs.Prelude.{ℕ, ◌&&◌, not, if◌then◌else◌, Bool, List, [], ◌∷◌, ◌++◌, filter}
use Rattle.std.specs.List.{list_any}
use Rattle.std.specs.Str.{bytes_eq}
use Rattle.tl_pin.specs.declared.line.PinLine.{PinLine}
use Rattle.tl_pin.specs.Form.{without_first}

-- whether a pin has a tag
abbrev pub has_tag : List ℕ → PinLine → Bool
has_tag tag pin = bytes_eq pin.tag tag

-- pins with globs more for a tag: behind those of its first pin or, where it has none, in a new last one
abbrev pub with_globs : List ℕ → List (List ℕ) → List PinLine → List PinLine
with_globs tag globs [] = record { tag = tag; globs = globs } ∷ []
with_globs tag globs (pin ∷ pins) =
    if has_tag tag pin then record pin { globs = pin.globs ++ globs } ∷ pins else pin ∷ with_globs tag globs pins

-- whether a pin has a tag and a glob
abbrev pub has_glob : List ℕ → List ℕ → PinLine → Bool
has_glob tag glob pin = has_tag tag pin && list_any (λ g. bytes_eq g glob) pin.globs

-- the pin with a tag and globs; none where there is no glob
abbrev pub pin_if_any : List ℕ → List (List ℕ) → List PinLine
pin_if_any tag [] = []
pin_if_any tag (g ∷ globs) = record { tag = tag; globs = g ∷ globs } ∷ []

-- pins without the first occurrence of a glob in those with a tag; a pin that has no glob left goes
abbrev pub without_glob : List ℕ → List ℕ → List PinLine → List PinLine
without_glob tag glob [] = []
without_glob tag glob (pin ∷ pins) =
    if has_glob tag glob pin then pin_if_any pin.tag (without_first glob pin.globs) ++ pins else pin ∷ without_glob tag glob pins

-- pins without those that have a tag
abbrev pub without_tag : List ℕ → List PinLine → List PinLine
without_tag tag pins = filter (λ pin. not (has_tag tag pin)) pins
