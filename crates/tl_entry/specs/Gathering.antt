-- Lists that rise by a key, as their elements come.
use Rattle.std.specs.Prelude.{◌≡◌, ℕ, ◌+◌, ◌<◌, true, false, List, length, slice_index_or, fold, IsPermutation}
use Rattle.std.specs.Cmp.Lexicographic.{slice_cmp}
use Rattle.std.specs.Ordering.{nat_cmp, is_eq}
use Rattle.std.specs.List.{list_any}
use Rattle.std.specs.Prelude.{Vec}
use Rattle.tl_entry.specs.Rising.{comes_before, insert_by, has_key, is_rising, IsPlace}

-- elements in rising order of their keys, and more of them, each in its place
abbrev pub with_all : {A : Type 0} → (A → List ℕ) → List A → List A → List A
with_all key late sorted = fold (λ before x. insert_by key x before) sorted late

-- texts are the keys of some elements
abbrev pub IsKeySet : {A Y : Type 0} → (A → List ℕ) → List A → List (Vec ℕ Y) → Type 0
IsKeySet {Y = Y} key items keys = (wanted : List ℕ) → list_any (λ (k : Vec ℕ Y). is_eq (slice_cmp nat_cmp wanted k.items)) keys ≡ has_key key wanted items

-- both the elements that came in order and all of them rise, and no late one is above all that came in order
pub record AreGathered {A : Type 0} (key : A → List ℕ) (sorted late : List A) : Type 0 where
  pub sorted_rises : is_rising key sorted ≡ true
  pub all_rises : is_rising key (with_all key late sorted) ≡ true
  pub none_above : (wanted : List ℕ) → IsPlace key wanted sorted (length sorted) → has_key key wanted late ≡ false

-- the same elements, none with a key below that of the one before it
pub record IsInOrder {A : Type 0} (key : A → List ℕ) (old new : List A) : Type 0 where
  pub same : IsPermutation old new
  pub order : (k : ℕ) (d : A) → k + 1 < length new → comes_before (key (slice_index_or new (k + 1) d)) (key (slice_index_or new k d)) ≡ false
