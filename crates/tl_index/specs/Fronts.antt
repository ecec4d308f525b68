-- Texts that begin with another, and where they stand among entries.
use Rattle.std.specs.Prelude.{◌≡◌, ℕ, ◌<◌, ◌≤◌, ◌==◌, ◌&&◌, nat_le, nat_lt, Bool, true, false, List, [], ◌∷◌, length, slice_index_or, if◌then◌else◌}
use Rattle.tl_entry.specs.Rising.{comes_before}
use Rattle.tl_pattern.specs.Form.{is_wild}
use Rattle.tl_index.specs.declared.hit.Hit.{Hit}

-- whether a text stands at the front of another
abbrev pub begins : List ℕ → List ℕ → Bool
begins [] text = true
begins (f ∷ front) [] = false
begins (f ∷ front) (b ∷ text) = f == b && begins front text

-- whether a place is from one on and before another
abbrev pub is_within : ℕ → ℕ → ℕ → Bool
is_within low high i = nat_le low i && nat_lt i high

-- the entries whose paths begin with a text stand from one place on, before another
pub record IsStretch (front : List ℕ) (hits : List Hit) (low high : ℕ) : Type 0 where
  pub order : low ≤ high
  pub within : high ≤ length hits
  pub same : (i : ℕ) (d : Hit) → i < length hits → begins front (slice_index_or hits i d).path ≡ is_within low high i

-- what stands in a glob before its first byte that stands for others
abbrev pub plain_front : List ℕ → List ℕ
plain_front [] = []
plain_front (b ∷ glob) = if is_wild b then [] else b ∷ plain_front glob

-- the entries before a place have paths that come before a text, and no other has
pub record IsFirstFrom (text : List ℕ) (hits : List Hit) (at : ℕ) : Type 0 where
  pub within : at ≤ length hits
  pub same : (i : ℕ) (d : Hit) → i < length hits → comes_before (slice_index_or hits i d).path text ≡ nat_lt i at

-- the entries before a place have paths that begin with a text, and no other has
pub record IsFrontPart (front : List ℕ) (hits : List Hit) (at : ℕ) : Type 0 where
  pub within : at ≤ length hits
  pub same : (i : ℕ) (d : Hit) → i < length hits → begins front (slice_index_or hits i d).path ≡ nat_lt i at
