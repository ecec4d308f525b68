-- What patterns choose among entries.
use Rattle.std.specs.Prelude.{◌≡◌, ℕ, ◌<◌, ◌≤◌, Bool, false, if◌then◌else◌, List, [], ◌∷◌, ◌++◌, length, slice_index_or, filter, take, drop}
use Rattle.std.specs.List.{count_by, sum_by}
use Rattle.tl_pattern.specs.Form.{PatternSeen}
use Rattle.tl_pattern.specs.Hits.{is_in_range, chosen}
use Rattle.tl_pattern.specs.declared.pattern.PlacedPattern.{PlacedPattern}
use Rattle.tl_index.specs.declared.hit.Hit.{Hit}
use Rattle.tl_index.specs.Places.{has_place}

-- the entries that some patterns choose
abbrev pub selected : List PlacedPattern → List Hit → List Hit
selected patterns entries = filter (λ (h : Hit). chosen patterns h.path) entries

-- how many entries are in a pattern's range
abbrev pub range_count : PatternSeen → List Hit → ℕ
range_count pattern entries = count_by (λ (h : Hit). is_in_range pattern h.path) entries

-- the sum of the same over some patterns
abbrev pub range_counts : List PlacedPattern → List Hit → ℕ
range_counts patterns entries = sum_by (λ (p : PlacedPattern). range_count p.pattern entries) patterns

-- a set of places in which those of the paths that pass a test are or aren't, and all others as before
pub record IsApplied (test : List ℕ → Bool) (positive : Bool) (entries : List Hit) (old new : List ℕ) : Type 0 where
  pub each : (i : ℕ) (d : Hit) → i < length entries → has_place new i ≡ (if test (slice_index_or entries i d).path then positive else has_place old i)
  pub others : (i : ℕ) → length entries ≤ i → has_place old i ≡ false → has_place new i ≡ false

-- the entries at some places
abbrev pub at_places : List ℕ → List Hit → List Hit
at_places [] entries = []
at_places (place ∷ places) entries = take 1 (drop place entries) ++ at_places places entries
