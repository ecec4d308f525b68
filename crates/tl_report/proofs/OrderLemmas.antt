-- Elements that were sorted by a text of each, of which those that came again were dropped.
use Rattle.std.proofs.Common.{◌≡◌, ℕ, Bool, true, false, cond, ◌&&◌, ◌||◌, List, [], ◌∷◌, map, refl, sym, ap, subst, ◌∙◌, inl, inr}
use Rattle.std.specs.Prelude.{nat_eq}
use Rattle.std.specs.Ordering.{nat_cmp, is_lt}
use Rattle.std.specs.declared.cmp.Ordering.{Ordering}
use Rattle.std.specs.declared.cmp.Ordering.TheVariants.{Less}
use Rattle.std.specs.Cmp.Lexicographic.{slice_cmp, pointwise, on_texts, texts_ties}
use Rattle.std.specs.List.{AllByRecursion, dedup, dedup_from}
use Rattle.std.specs.List.Sorted.{IsPermutation, IsSorted, IsStrictlySortedBy}
use Rattle.std.specs.List.Retain.{IsFiltered, DiffersFromLast}
use Rattle.std.proofs.lemmas.Bool.{cases_Bool}
use Rattle.std.proofs.lemmas.List.Filters.{dedup_is}
use Rattle.std.proofs.lemmas.List.Kept.{IsStrictlySortedBy-dedup}
use Rattle.std.proofs.lemmas.List.Sorted.{IsPermutation-map, list_any-IsPermutation}
use Rattle.tl_model.specs.Volume.{same_name, same_name-is}
use Rattle.tl_entry.specs.Rising.{has_key, is_rising, is_rising_after}
use Rattle.tl_entry.specs.FilePaths.{rising_of}
use Rattle.tl_entry.proofs.SetLemmas.{rising_of_is}

twice : (a b : Bool) → (a || b) ≡ (a || (a || b))
twice true b = refl
twice false b = refl

module _ {A : Type 0} (key : A → List ℕ) where
  abbrev own : List ℕ → List ℕ
  own text = text

  abbrev order : A → A → Ordering
  order x y = slice_cmp nat_cmp (key x) (key y)

  abbrev same : A → A → Bool
  same x y = pointwise nat_eq (key x) (key y)

  same-is : (x y : A) → same x y ≡ true → key x ≡ key y
  same-is x y is = same_name-is (key x) (key y) (sym (texts_ties (key x) (key y)) ∙ is)

  has-dedup_from : (w : List ℕ) (kept : A) (xs : List A) → has_key own w (map key (dedup_from same kept xs)) ≡ (same_name (key kept) w || has_key own w (map key xs))
  has-dedup_from w kept [] = refl
  has-dedup_from w kept (x ∷ xs) = elim (cases_Bool (same x kept)) [
    | inl is ↦ ap (λ t. has_key own w (map key (cond t (dedup_from same kept xs) (kept ∷ dedup_from same x xs)))) is
        ∙ has-dedup_from w kept xs ∙ twice (same_name (key kept) w) (has_key own w (map key xs))
        ∙ ap (λ (k : List ℕ). same_name (key kept) w || (same_name k w || has_key own w (map key xs))) (sym (same-is x kept is))
    | inr apart ↦ ap (λ t. has_key own w (map key (cond t (dedup_from same kept xs) (kept ∷ dedup_from same x xs)))) apart
        ∙ ap (λ t. same_name (key kept) w || t) (has-dedup_from w x xs)
  ]

  has-dedup : (w : List ℕ) (xs : List A) → has_key own w (map key (dedup same xs)) ≡ has_key own w (map key xs)
  has-dedup w [] = refl
  has-dedup w (x ∷ xs) = has-dedup_from w x xs

  rising_from_strict : (xs : List A) → IsStrictlySortedBy order xs → is_rising own (map key xs) ≡ true
  unfolding IsStrictlySortedBy
  rising_from_strict [] up = refl
  rising_from_strict (x ∷ xs) up = after x xs up.0 up.1
    where
      after : (x : A) (xs : List A) → AllByRecursion (λ (y : A). order x y ≡ Less) xs → IsStrictlySortedBy order xs → is_rising_after own (key x) (map key xs) ≡ true
      after x [] all up = refl
      after x (next ∷ xs) all up = ap (λ o. is_lt o && is_rising_after own (key next) (map key xs)) all.0 ∙ after next xs up.0 up.1

  -- the texts of what is left are those of all in the order of their bytes, each once
  pub sorted_once : (xs sorted left : List A) → IsPermutation xs sorted → IsSorted order sorted → IsFiltered (DiffersFromLast same) [] sorted left → map key left ≡ rising_of (map key xs)
  sorted_once xs sorted left moved up once =
      let is : left ≡ dedup same sorted = dedup_is same sorted left once in
      let rising : is_rising own (map key left) ≡ true =
      subst (λ (ys : List A). is_rising own (map key ys) ≡ true) (sym is) (rising_from_strict _ (IsStrictlySortedBy-dedup (on_texts key) (λ x y. texts_ties (key x) (key y)) sorted up)) in
      rising_of_is (map key xs) (map key left) rising
      (λ w. ap (λ (ys : List A). has_key own w (map key ys)) is ∙ has-dedup w sorted ∙ sym (list_any-IsPermutation (λ t. same_name t w) (map key xs) (map key sorted) (IsPermutation-map key xs sorted moved)))
