-- Sets of places.
use Rattle.std.specs.Prelude.{◌≡◌, ℕ, Bool, List, if◌then◌else◌, ◌==◌}
use Rattle.std.specs.List.{list_any}
use Rattle.std.specs.Ordering.{nat_cmp}
use Rattle.std.specs.BTreeMap.{is_at}
use Rattle.tl_index.specs.Fronts.{is_within}

-- whether a place is in a set
abbrev pub has_place : List ℕ → ℕ → Bool
has_place places i = list_any (is_at (nat_cmp i)) places

-- a set in which the places of a stretch are, or aren't, and all others as before
abbrev pub AreSet : ℕ → ℕ → Bool → List ℕ → List ℕ → Type 0
AreSet low high positive old new = (i : ℕ) → has_place new i ≡ (if is_within low high i then positive else has_place old i)
