-- What it means that elements whose lines stand at the front of a text rise by a key.
use Rattle.std.specs.Prelude.{◌≡◌, ℕ, Bool, true, ◌&&◌, List, [], ◌∷◌, ◌++◌, All}
use Rattle.std.specs.List.{flat_map}
use Rattle.tl_model.specs.Acks.{IsPlain}
use Rattle.tl_entry.specs.Rising.{comes_before, is_rising, is_rising_after}
use Rattle.tl_written.specs.Stands.{Stands}

-- whether elements rise by their keys, which are greater than a text
abbrev pub rises_behind : {A : Type 0} → (A → List ℕ) → List ℕ → List A → Bool
rises_behind key last [] = true
rises_behind key last (x ∷ xs) = comes_before last (key x) && is_rising_after key x xs

-- elements that rise up to a key have their lines at the front of a text, and then a rest
pub record IsFront {A : Type 0} (key lines : A → List ℕ) (formed : A → Type 0) (text rest last : List ℕ) : Type 0 where
  pub items : List A
  pub same : text ≡ flat_map lines items ++ rest
  pub plain : IsPlain (flat_map lines items)
  pub each : All formed items
  pub rises : (more : List A) → rises_behind key last more ≡ true → is_rising key (items ++ more) ≡ true

-- elements of a form that rise by their keys
pub record AreRising {A : Type 0} (key : A → List ℕ) (formed : A → Type 0) (items : List A) : Type 0 where
  pub each : All formed items
  pub rising : is_rising key items ≡ true

-- the lines of elements that rise by their keys stand at the front of a text, and then a rest
abbrev pub RiseAtFront : {A : Type 0} → (A → List ℕ) → (A → List ℕ) → (A → Type 0) → List ℕ → List ℕ → Type 0
RiseAtFront key lines formed text rest = Stands (flat_map lines) (AreRising key formed) text rest

-- the lines of one element with this key stand at the front of a text, and then a rest
abbrev pub OneStands : {A : Type 0} → (A → List ℕ) → (A → List ℕ) → (A → Type 0) → List ℕ → List ℕ → List ℕ → Type 0
OneStands key lines formed named text rest = Stands lines (λ x. formed x × (key x ≡ named)) text rest
