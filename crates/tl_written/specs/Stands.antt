-- What it means that the lines of some part of an entry stand at the front of a text.
use Rattle.std.specs.Prelude.{◌≡◌, ℕ, List, ◌++◌, All}
use Rattle.std.specs.List.{flat_map}
use Rattle.tl_model.specs.Acks.{IsPlain}

-- the lines of some value of a form stand at the front of a text, and then a rest
pub record Stands {V : Type 0} (lines : V → List ℕ) (formed : V → Type 0) (text rest : List ℕ) : Type 0 where
  pub value : V
  pub same : text ≡ lines value ++ rest
  pub plain : IsPlain (lines value)
  pub is : formed value

-- the lines of some values of a form, one behind the other, stand at the front of a text, and then a rest
abbrev pub AllStand : {V : Type 0} → (V → List ℕ) → (V → Type 0) → List ℕ → List ℕ → Type 0
AllStand lines formed text rest = Stands (flat_map lines) (All formed) text rest
