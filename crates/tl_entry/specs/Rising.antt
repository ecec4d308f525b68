-- Lists in rising order of a key, which is a text.
use Rattle.std.specs.Prelude.{◌≡◌, ℕ, ◌<◌, ◌≤◌, Bool, true, ◌&&◌, if◌then◌else◌, List, [], ◌∷◌, length, slice_index_or}
use Rattle.std.specs.Ordering.{nat_cmp, is_lt}
use Rattle.std.specs.Cmp.Lexicographic.{slice_cmp}
use Rattle.std.specs.List.{list_any}
use Rattle.tl_model.specs.Volume.{same_name}

-- whether a text comes before another, by bytes
abbrev pub comes_before : List ℕ → List ℕ → Bool
comes_before a b = is_lt (slice_cmp nat_cmp a b)

-- an element among others in front of the first one whose key is greater
abbrev pub insert_by : {A : Type 0} → (A → List ℕ) → A → List A → List A
insert_by key x [] = x ∷ []
insert_by key x (y ∷ ys) = if comes_before (key x) (key y) then x ∷ y ∷ ys else y ∷ insert_by key x ys

-- whether an element has this key
abbrev pub has_key : {A : Type 0} → (A → List ℕ) → List ℕ → List A → Bool
has_key key wanted xs = list_any (λ x. same_name (key x) wanted) xs

-- whether each key is greater than the one before it, the first one greater than that of an element before them
abbrev pub is_rising_after : {A : Type 0} → (A → List ℕ) → A → List A → Bool
is_rising_after key x [] = true
is_rising_after key x (y ∷ ys) = comes_before (key x) (key y) && is_rising_after key y ys

-- whether each key is greater than the one before it
abbrev pub is_rising : {A : Type 0} → (A → List ℕ) → List A → Bool
is_rising key [] = true
is_rising key (x ∷ xs) = is_rising_after key x xs

-- the keys below this place are less, and those from it on greater
pub record IsPlace {A : Type 0} (key : A → List ℕ) (wanted : List ℕ) (xs : List A) (at : ℕ) : Type 0 where
  pub within : at ≤ length xs
  pub below : (k : ℕ) (d : A) → k < at → comes_before (key (slice_index_or xs k d)) wanted ≡ true
  pub above : (k : ℕ) (d : A) → at ≤ k → k < length xs → comes_before wanted (key (slice_index_or xs k d)) ≡ true
