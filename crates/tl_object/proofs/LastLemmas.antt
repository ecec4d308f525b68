-- An element that comes behind all others of a rising list.
use Rattle.std.proofs.Common.{◌≡◌, ℕ, Bool, true, false, cond, ◌&&◌, ◌||◌, List, [], ◌∷◌, ◌++◌, refl, ◌∙◌, ap}
use Rattle.std.specs.List.{list_all}
use Rattle.tl_entry.specs.Rising.{comes_before, insert_by, has_key, is_rising}
use Rattle.tl_object.proofs.ValueLemmas.{both}
use Rattle.tl_entry.proofs.RisingLemmas.{before_trans, before_not, before_apart}

joined : (a b : Bool) → a ≡ true → b ≡ true → (a && b) ≡ true
joined a b p q = ap (λ t. t && b) p ∙ q

module _ {A : Type 0} (key : A → List ℕ) where
  -- whether each key is less than that of an element
  abbrev pub all_below : A → List A → Bool
  all_below x xs = list_all (λ y. comes_before (key y) (key x)) xs

  pub below-next : (x y : A) (xs : List A) → all_below x xs ≡ true → comes_before (key x) (key y) ≡ true → all_below y (xs ++ x ∷ []) ≡ true
  below-next x y [] below next = joined _ true next refl
  below-next x y (z ∷ xs) below next =
      let parts = both (comes_before (key z) (key x)) (all_below x xs) below in
      joined _ _ (before_trans (key z) (key x) (key y) parts.0 next) (below-next x y xs parts.1 next)

  pub insert-last : (x : A) (xs : List A) → all_below x xs ≡ true → insert_by key x xs ≡ xs ++ x ∷ []
  insert-last x [] below = refl
  insert-last x (y ∷ xs) below =
      let parts = both (comes_before (key y) (key x)) (all_below x xs) below in
      ap (λ t. cond t (x ∷ y ∷ xs) (y ∷ insert_by key x xs)) (before_not (key y) (key x) parts.0) ∙ ap (λ (zs : List A). y ∷ zs) (insert-last x xs parts.1)

  pub absent-last : (x : A) (xs : List A) → all_below x xs ≡ true → has_key key (key x) xs ≡ false
  absent-last x [] below = refl
  absent-last x (y ∷ xs) below =
      let parts = both (comes_before (key y) (key x)) (all_below x xs) below in
      ap (λ t. t || has_key key (key x) xs) (before_apart (key y) (key x) parts.0) ∙ absent-last x xs parts.1

  -- what comes behind the first element of a rising list: either nothing or an element that is greater
  pub rising-tail : (x : A) (xs : List A) → is_rising key (x ∷ xs) ≡ true → is_rising key xs ≡ true
  rising-tail x [] up = refl
  rising-tail x (y ∷ ys) up = (both _ _ up).1

  -- the first element of what is left of a rising list comes behind all before it
  abbrev pub Follows : List A → List A → Type 0
  Follows before [] = Unit {0}
  Follows before (x ∷ xs) = all_below x before ≡ true

  pub follows-none : (xs : List A) → Follows [] xs
  follows-none [] = tt
  follows-none (x ∷ xs) = refl

  pub follows-next : (before : List A) (x : A) (xs : List A) → Follows before (x ∷ xs) → is_rising key (x ∷ xs) ≡ true → Follows (before ++ x ∷ []) xs
  follows-next before x [] below up = tt
  follows-next before x (y ∷ ys) below up = below-next x y before below (both _ _ up).0
