-- Places in rising lists.
use Rattle.std.proofs.Common.{◌≡◌, ℕ, zero, suc, ◌<◌, ◌≤◌, Bool, true, false, cond, ◌&&◌, ◌||◌, List, [], ◌∷◌, length, get_or, map, refl, sym, ap, subst, ◌∙◌, arith, inl, inr}
use Rattle.std.specs.Ordering.{nat_cmp, is_lt, is_eq, ordering_reverse}
use Rattle.std.specs.declared.cmp.Ordering.{Ordering}
use Rattle.std.specs.declared.cmp.Ordering.TheVariants.{Less, Equal, Greater}
use Rattle.std.specs.Cmp.Lexicographic.{slice_cmp}
use Rattle.std.specs.List.{insert}
use Rattle.std.proofs.lemmas.Bool.{cases_Bool, true≢false}
use Rattle.std.proofs.lemmas.Cmp.{nat_list_cmp_total}
use Rattle.tl_model.specs.Volume.{same_name}
use Rattle.tl_entry.specs.Rising.{comes_before, insert_by, has_key, is_rising, is_rising_after, IsPlace}

abbrev Cmp : List ℕ → List ℕ → Ordering
Cmp a b = slice_cmp nat_cmp a b

is_less : (o : Ordering) → is_lt o ≡ true → o ≡ Less
is_less Less e = refl
is_less Equal e = absurd (cc)
is_less Greater e = absurd (cc)

both : (a b : Bool) → (a && b) ≡ true → (a ≡ true) × (b ≡ true)
both true b e = (refl, e)
both false b e = absurd (cc)

joined : (a b : Bool) → a ≡ true → b ≡ true → (a && b) ≡ true
joined a b p q = ap (λ t. t && b) p ∙ q

pub before_trans : (a b c : List ℕ) → comes_before a b ≡ true → comes_before b c ≡ true → comes_before a c ≡ true
before_trans a b c p q = ap is_lt (nat_list_cmp_total.trans a b c (is_less _ p) (is_less _ q))

pub before_not : (a b : List ℕ) → comes_before a b ≡ true → comes_before b a ≡ false
before_not a b p = ap is_lt (nat_list_cmp_total.antisymm b a ∙ ap ordering_reverse (is_less _ p))

pub before_apart : (a b : List ℕ) → comes_before a b ≡ true → same_name a b ≡ false
before_apart a b p = ap is_eq (is_less _ p)

pub before_apart_back : (a b : List ℕ) → comes_before a b ≡ true → same_name b a ≡ false
before_apart_back a b p = ap is_eq (nat_list_cmp_total.antisymm b a ∙ ap ordering_reverse (is_less _ p))

-- of two texts that are apart, the second comes first where the first doesn't
pub before_other : (a b : List ℕ) → comes_before a b ≡ false → same_name b a ≡ false → comes_before b a ≡ true
before_other a b p q = turned (Cmp a b) (Cmp b a) (nat_list_cmp_total.antisymm b a) p q
  where
    turned : (o r : Ordering) → r ≡ ordering_reverse o → is_lt o ≡ false → is_eq r ≡ false → is_lt r ≡ true
    turned Less r e p q = absurd (cc)
    turned Equal r e p q = absurd (true≢false (sym (ap is_eq e) ∙ q))
    turned Greater r e p q = ap is_lt e

module _ {A : Type 0} (key : A → List ℕ) where
  tail_rising : (x : A) (xs : List A) → is_rising_after key x xs ≡ true → is_rising key xs ≡ true
  tail_rising x [] e = refl
  tail_rising x (y ∷ ys) e = (both _ _ e).1

  -- what is below an element is below what that element is below
  pub below_all : (wanted : List ℕ) (xs : List A) (i : ℕ) (d : A) → is_rising key xs ≡ true → i < length xs → comes_before (key (get_or xs i d)) wanted ≡ true
      → (k : ℕ) → k ≤ i → comes_before (key (get_or xs k d)) wanted ≡ true
  below_all wanted [] i d up lt here k le = absurd (omega arith)
  below_all wanted (x ∷ xs) zero d up lt here zero le = here
  below_all wanted (x ∷ xs) zero d up lt here (suc k) le = absurd (omega arith)
  below_all wanted (x ∷ []) (suc i) d up lt here zero le = absurd (omega arith)
  below_all wanted (x ∷ y ∷ ys) (suc i) d up lt here zero le =
      before_trans (key x) (key y) wanted (both _ _ up).0 (below_all wanted (y ∷ ys) i d (both _ _ up).1 (omega arith) here 0 (omega arith))
  below_all wanted (x ∷ xs) (suc i) d up lt here (suc k) le = below_all wanted xs i d (tail_rising x xs up) (omega arith) here k (omega arith)

  -- what is above an element is above what that element is above
  pub above_all : (wanted : List ℕ) (xs : List A) (i : ℕ) (d : A) → is_rising key xs ≡ true → i < length xs → comes_before wanted (key (get_or xs i d)) ≡ true
      → (k : ℕ) → i ≤ k → k < length xs → comes_before wanted (key (get_or xs k d)) ≡ true
  above_all wanted [] i d up lt here k le in_range = absurd (omega arith)
  above_all wanted (x ∷ xs) zero d up lt here zero le in_range = here
  above_all wanted (x ∷ []) zero d up lt here (suc k) le in_range = absurd (omega arith)
  above_all wanted (x ∷ y ∷ ys) zero d up lt here (suc k) le in_range =
      above_all wanted (y ∷ ys) 0 d (both _ _ up).1 (omega arith) (before_trans wanted (key x) (key y) here (both _ _ up).0) k (omega arith) (omega arith)
  above_all wanted (x ∷ xs) (suc i) d up lt here zero le in_range = absurd (omega arith)
  above_all wanted (x ∷ xs) (suc i) d up lt here (suc k) le in_range = above_all wanted xs i d (tail_rising x xs up) (omega arith) here k (omega arith) (omega arith)

  -- an element goes in at its place
  pub insert_at : (x : A) (xs : List A) (i : ℕ) → IsPlace key (key x) xs i → insert_by key x xs ≡ insert xs i x
  insert_at x [] zero place = refl
  insert_at x [] (suc i) place = absurd (omega (arith, place.within))
  insert_at x (y ∷ ys) zero place = ap (λ t. cond t (x ∷ y ∷ ys) (y ∷ insert_by key x ys)) (place.above 0 y (omega arith) (omega arith))
  insert_at x (y ∷ ys) (suc i) place =
      ap (λ t. cond t (x ∷ y ∷ ys) (y ∷ insert_by key x ys)) (before_not (key y) (key x) (place.below 0 y (omega arith)))
      ∙ ap (λ (zs : List A). y ∷ zs) (insert_at x ys i (record { within = omega (arith, place.within); below = λ k d lt. place.below (suc k) d (omega arith); above = λ k d le lt. place.above (suc k) d (omega arith) (omega arith) }))

  pub absent_at : (wanted : List ℕ) (xs : List A) (i : ℕ) → IsPlace key wanted xs i → has_key key wanted xs ≡ false
  absent_at wanted [] i place = refl
  absent_at wanted (y ∷ ys) zero place =
      ap (λ t. t || has_key key wanted ys) (before_apart_back wanted (key y) (place.above 0 y (omega arith) (omega arith)))
      ∙ absent_at wanted ys 0 (record { within = omega arith; below = λ k d lt. absurd (omega arith); above = λ k d le lt. place.above (suc k) d (omega arith) (omega arith) })
  absent_at wanted (y ∷ ys) (suc i) place =
      ap (λ t. t || has_key key wanted ys) (before_apart (key y) wanted (place.below 0 y (omega arith)))
      ∙ absent_at wanted ys i (record { within = omega (arith, place.within); below = λ k d lt. place.below (suc k) d (omega arith); above = λ k d le lt. place.above (suc k) d (omega arith) (omega arith) })

  pub present_at : (wanted : List ℕ) (xs : List A) (i : ℕ) (d : A) → i < length xs → same_name (key (get_or xs i d)) wanted ≡ true → has_key key wanted xs ≡ true
  present_at wanted [] i d lt is = absurd (omega arith)
  present_at wanted (y ∷ ys) zero d lt is = ap (λ t. t || has_key key wanted ys) is
  present_at wanted (y ∷ ys) (suc i) d lt is = either (same_name (key y) wanted) (present_at wanted ys i d (omega arith) is)
    where
      either : (t : Bool) → has_key key wanted ys ≡ true → (t || has_key key wanted ys) ≡ true
      either true e = refl
      either false e = e

  apart_parts : (a b : Bool) → (a || b) ≡ false → (a ≡ false) × (b ≡ false)
  apart_parts true b e = absurd (cc)
  apart_parts false b e = (refl, e)

  rising_after-insert : (x y : A) (ys : List A) → is_rising_after key y ys ≡ true → comes_before (key y) (key x) ≡ true → has_key key (key x) ys ≡ false → is_rising_after key y (insert_by key x ys) ≡ true
  rising_after-insert x y [] up lt none = joined _ _ lt refl
  rising_after-insert x y (z ∷ zs) up lt none =
      elim (cases_Bool (comes_before (key x) (key z))) [
        | inl first ↦ subst (λ (t : Bool). is_rising_after key y (cond t (x ∷ z ∷ zs) (z ∷ insert_by key x zs)) ≡ true) (sym first) (joined _ _ lt (joined _ _ first (both _ _ up).1))
        | inr later ↦ subst (λ (t : Bool). is_rising_after key y (cond t (x ∷ z ∷ zs) (z ∷ insert_by key x zs)) ≡ true) (sym later)
            (joined _ _ (both _ _ up).0 (rising_after-insert x z zs (both _ _ up).1 (before_other (key x) (key z) later (apart_parts _ _ none).0) (apart_parts _ _ none).1))
      ]

  pub rising-insert : (x : A) (xs : List A) → is_rising key xs ≡ true → has_key key (key x) xs ≡ false → is_rising key (insert_by key x xs) ≡ true
  rising-insert x [] up none = refl
  rising-insert x (y ∷ ys) up none =
      elim (cases_Bool (comes_before (key x) (key y))) [
        | inl first ↦ subst (λ (t : Bool). is_rising key (cond t (x ∷ y ∷ ys) (y ∷ insert_by key x ys)) ≡ true) (sym first) (joined _ _ first up)
        | inr later ↦ subst (λ (t : Bool). is_rising key (cond t (x ∷ y ∷ ys) (y ∷ insert_by key x ys)) ≡ true) (sym later)
            (rising_after-insert x y ys up (before_other (key x) (key y) later (apart_parts _ _ none).0) (apart_parts _ _ none).1)
      ]

  -- what an element that went in at its place leaves
  pub record Placed (x : A) (xs new : List A) : Type 0 where
    pub absent : has_key key (key x) xs ≡ false
    pub same : new ≡ insert_by key x xs
    pub rising : is_rising key new ≡ true

  pub placed : (x : A) (wanted : List ℕ) (items xs new : List A) (at : ℕ) → wanted ≡ key x → items ≡ xs → is_rising key xs ≡ true → IsPlace key wanted items at → new ≡ insert xs at x → Placed x xs new
  placed x wanted items xs new at is same up place after =
      let here : IsPlace key (key x) xs at = subst (λ (w : List ℕ). IsPlace key w xs at) is (subst (λ (ys : List A). IsPlace key wanted ys at) same place) in
      let none = absent_at (key x) xs at here in
      let e : new ≡ insert_by key x xs = after ∙ sym (insert_at x xs at here) in
      record { absent = none; same = e; rising = subst (λ (ys : List A). is_rising key ys ≡ true) (sym e) (rising-insert x xs up none) }

  pub rising_after-map : (x : A) (xs : List A) → is_rising_after (λ (k : List ℕ). k) (key x) (map key xs) ≡ is_rising_after key x xs
  rising_after-map x [] = refl
  rising_after-map x (y ∷ ys) = ap (λ t. comes_before (key x) (key y) && t) (rising_after-map y ys)

  -- the keys of a rising list rise
  pub rising-map : (xs : List A) → is_rising (λ (k : List ℕ). k) (map key xs) ≡ is_rising key xs
  rising-map [] = refl
  rising-map (x ∷ xs) = rising_after-map x xs
