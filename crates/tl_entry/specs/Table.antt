-- Paths that stand in one text.
use Rattle.std.specs.Prelude.{◌≡◌, ℕ, ◌≤◌, true, List, length, map, slice_range}
use Rattle.std.specs.List.{All}
use Rattle.tl_path.specs.Path.{IsPath}
use Rattle.tl_entry.specs.Rising.{is_rising}
use Rattle.tl_entry.specs.declared.paths.Place.{Place}

-- what stands in a text at a place
abbrev pub stretch : List ℕ → Place → List ℕ
stretch text place = slice_range text place.start place.end

-- what stands in a text at some places
abbrev pub stretches : List ℕ → List Place → List (List ℕ)
stretches text places = map (λ (place : Place). stretch text place) places

-- a place is within a text, and a path stands there
pub record HasPathAt (text : List ℕ) (place : Place) : Type 0 where
  pub order : place.start ≤ place.end
  pub within : place.end ≤ length text
  pub path : IsPath (stretch text place)

-- a path stands at each place, and they rise
pub record IsTable (text : List ℕ) (places : List Place) : Type 0 where
  pub paths : All (λ (place : Place). HasPathAt text place) places
  pub rises : is_rising (λ (path : List ℕ). path) (stretches text places) ≡ true
