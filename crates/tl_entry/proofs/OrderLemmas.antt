-- Elements that were sorted by their keys.
use Rattle.std.proofs.Common.{◌≡◌, ◌⊎◌, ℕ, suc, ◌+◌, ◌<◌, ◌≤◌, Bool, true, false, cond, ◌&&◌, ◌||◌, List, [], ◌∷◌, ◌++◌, length, get_or, map, refl, sym, ap, subst, ◌∙◌, arith, inl, inr}
use Rattle.std.specs.List.{sum_by, All}
use Rattle.std.proofs.lemmas.Bool.{cases_Bool, true≢false}
use Rattle.std.proofs.lemmas.List.Elements.{All-cons, All-head, All-tail, All-append, All-nil, All-weaker}
use Rattle.std.proofs.lemmas.List.Sums.{sum_by-cons, sum_by-append}
use Rattle.std.proofs.lemmas.List.Sorted.{All-permutation, IsPermutation-sym, sum_by-IsPermutation}
use Rattle.tl_model.specs.Volume.{same_name, same_name-is, same_name-refl}
use Rattle.tl_entry.specs.Rising.{comes_before, insert_by, has_key, is_rising, is_rising_after}
use Rattle.tl_entry.specs.Gathering.{with_all, IsInOrder}
use Rattle.tl_entry.proofs.RisingLemmas.{before_other, rising_after-map}
use Rattle.tl_entry.proofs.SetLemmas.{none_below, none_again}

abbrev Text : Type 0
Text = List ℕ

both : (a b : Bool) → (a && b) ≡ true → (a ≡ true) × (b ≡ true)
both true b e = (refl, e)
both false b e = absurd (cc)

joined : (a b : Bool) → a ≡ true → b ≡ true → (a && b) ≡ true
joined a b p q = ap (λ t. t && b) p ∙ q

module _ {A : Type 0} (key : A → Text) where
  -- 1 at an element with this key
  abbrev hit : Text → A → ℕ
  hit wanted x = cond (same_name (key x) wanted) 1 0

  -- how many elements have this key
  abbrev hits : Text → List A → ℕ
  hits wanted xs = sum_by (hit wanted) xs

  abbrev Single : List A → Type 0
  Single xs = (wanted : Text) → hits wanted xs ≤ 1

  hits-none : (wanted : Text) (xs : List A) → has_key key wanted xs ≡ false → hits wanted xs ≡ 0
  hits-none wanted [] none = refl
  hits-none wanted (x ∷ xs) none = sum_by-cons (hit wanted) x xs ∙ at (cases_Bool (same_name (key x) wanted)) (hits-none wanted xs)
    where
      at : (same_name (key x) wanted ≡ true) ⊎ (same_name (key x) wanted ≡ false) → (has_key key wanted xs ≡ false → hits wanted xs ≡ 0) → hit wanted x + hits wanted xs ≡ 0
      at (inl is) more = absurd (true≢false (sym (ap (λ t. t || has_key key wanted xs) is) ∙ none))
      at (inr apart) more =
          let e : hit wanted x ≡ 0 = ap (λ t. cond t 1 0) apart in
          let e' = more (sym (ap (λ t. t || has_key key wanted xs) apart) ∙ none) in
          omega (arith, e, e')

  has-map : (wanted : Text) (xs : List A) → has_key (λ (k : Text). k) wanted (map key xs) ≡ has_key key wanted xs
  has-map wanted [] = refl
  has-map wanted (x ∷ xs) = ap (λ t. same_name (key x) wanted || t) (has-map wanted xs)

  -- the first key of a rising list comes no second time
  first_once : (x : A) (xs : List A) → is_rising_after key x xs ≡ true → has_key key (key x) xs ≡ false
  first_once x xs up = sym (has-map (key x) xs) ∙ none_again (key x) (map key xs) (rising_after-map key x xs ∙ up)

  -- nothing below the first key of a rising list is among its keys
  below_none : (wanted : Text) (x : A) (xs : List A) → comes_before wanted (key x) ≡ true → is_rising_after key x xs ≡ true → has_key key wanted (x ∷ xs) ≡ false
  below_none wanted x xs lt up = sym (has-map wanted (x ∷ xs)) ∙ none_below wanted (key x) (map key xs) lt (rising_after-map key x xs ∙ up)

  tail_rising : (x : A) (xs : List A) → is_rising_after key x xs ≡ true → is_rising key xs ≡ true
  tail_rising x [] e = refl
  tail_rising x (y ∷ ys) e = (both _ _ e).1

  single_rising : (xs : List A) → is_rising key xs ≡ true → Single xs
  single_rising [] up wanted = omega arith
  single_rising (x ∷ xs) up wanted = subst (λ (n : ℕ). n ≤ 1) (sym (sum_by-cons (hit wanted) x xs)) (at (cases_Bool (same_name (key x) wanted)) (single_rising xs (tail_rising x xs up) wanted))
    where
      at : (same_name (key x) wanted ≡ true) ⊎ (same_name (key x) wanted ≡ false) → hits wanted xs ≤ 1 → hit wanted x + hits wanted xs ≤ 1
      at (inl is) le =
          let none : hits wanted xs ≡ 0 = hits-none wanted xs (subst (λ (w : Text). has_key key w xs ≡ false) (same_name-is (key x) wanted is) (first_once x xs up)) in
          let e : hit wanted x ≡ 1 = ap (λ t. cond t 1 0) is in
          omega (arith, e, none)
      at (inr apart) le =
          let e : hit wanted x ≡ 0 = ap (λ t. cond t 1 0) apart in
          omega (arith, e, le)

  -- a list without two of one key rises where no key is below the one before it
  rising_ordered : (xs : List A) → ((k : ℕ) (d : A) → suc k < length xs → comes_before (key (get_or xs (suc k) d)) (key (get_or xs k d)) ≡ false) → Single xs → is_rising key xs ≡ true
  rising_ordered [] order single = refl
  rising_ordered (x ∷ []) order single = refl
  rising_ordered (x ∷ y ∷ xs) order single = joined _ _ (next (cases_Bool (same_name (key x) (key y)))) (rising_ordered (y ∷ xs) (λ k d lt. order (suc k) d (omega arith)) rest)
    where
      rest : Single (y ∷ xs)
      rest wanted = let all = single wanted in let e = sum_by-cons (hit wanted) x (y ∷ xs) in omega (arith, all, e)

      next : (same_name (key x) (key y) ≡ true) ⊎ (same_name (key x) (key y) ≡ false) → comes_before (key x) (key y) ≡ true
      next (inl is) =
          let all = single (key y) in
          let e = sum_by-cons (hit (key y)) x (y ∷ xs) in
          let e' = sum_by-cons (hit (key y)) y xs in
          let one : hit (key y) x ≡ 1 = ap (λ t. cond t 1 0) is in
          let one' : hit (key y) y ≡ 1 = ap (λ t. cond t 1 0) (same_name-refl (key y)) in
          absurd (omega (arith, all, e, e', one, one'))
      next (inr apart) = before_other (key y) (key x) (order 0 x (omega arith)) apart

  -- an element is among others
  abbrev Among : List A → A → Type 0
  Among [] z = ⊥
  Among (x ∷ xs) z = (z ≡ x) ⊎ Among xs z

  has-among : (xs : List A) (z : A) → Among xs z → has_key key (key z) xs ≡ true
  has-among [] z i = absurd i
  has-among (x ∷ xs) z (inl is) = ap (λ t. t || has_key key (key z) xs) (ap (λ (w : A). same_name (key w) (key z)) (sym is) ∙ same_name-refl (key z))
  has-among (x ∷ xs) z (inr i) = either (same_name (key x) (key z)) (has-among xs z i)
    where
      either : (t : Bool) → has_key key (key z) xs ≡ true → (t || has_key key (key z) xs) ≡ true
      either true e = refl
      either false e = e

  among_self : (xs : List A) → All (Among xs) xs
  among_self [] = All-nil _
  among_self (x ∷ xs) = All-cons (Among (x ∷ xs)) x xs (inl refl) (All-weaker (Among xs) (Among (x ∷ xs)) (λ z i. inr i) xs (among_self xs))

  -- two rising lists with the same elements are one
  rising_same : (xs ys : List A) → is_rising key xs ≡ true → is_rising key ys ≡ true → ((z : A) → Among xs z → Among ys z) → ((z : A) → Among ys z → Among xs z) → xs ≡ ys
  rising_same [] [] up up' to from = refl
  rising_same [] (y ∷ ys) up up' to from = absurd (from y (inl refl))
  rising_same (x ∷ xs) [] up up' to from = absurd (to x (inl refl))
  rising_same (x ∷ xs) (y ∷ ys) up up' to from = both_heads (rising_same xs ys (tail_rising x xs up) (tail_rising y ys up')) (to x (inl refl)) (from y (inl refl))
    where
      Same : Type 0
      Same = ((z : A) → Among xs z → Among ys z) → ((z : A) → Among ys z → Among xs z) → xs ≡ ys

      -- the tails have the same elements, since the first is in neither
      rest : Same → x ≡ y → xs ≡ ys
      rest more is = more
          (λ z i. other z (to z (inr i)) (λ (e : z ≡ y). absurd (true≢false (sym (has-among xs z i) ∙ ap (λ (w : A). has_key key (key w) xs) (e ∙ sym is) ∙ first_once x xs up))))
          (λ z i. other' z (from z (inr i)) (λ (e : z ≡ x). absurd (true≢false (sym (has-among ys z i) ∙ ap (λ (w : A). has_key key (key w) ys) (e ∙ is) ∙ first_once y ys up'))))
        where
          other : (z : A) → (z ≡ y) ⊎ Among ys z → ((z ≡ y) → Among ys z) → Among ys z
          other z (inl e) none = none e
          other z (inr i) none = i

          other' : (z : A) → (z ≡ x) ⊎ Among xs z → ((z ≡ x) → Among xs z) → Among xs z
          other' z (inl e) none = none e
          other' z (inr i) none = i

      below : (z : A) (w : A) (ws : List A) → is_rising_after key w ws ≡ true → Among ws z → comes_before (key z) (key w) ≡ true → ⊥
      below z w ws up i lt = true≢false (sym (has-among (w ∷ ws) z (inr i)) ∙ below_none (key z) w ws lt up)

      both_heads : Same → (x ≡ y) ⊎ Among ys x → (y ≡ x) ⊎ Among xs y → x ∷ xs ≡ y ∷ ys
      both_heads more (inl is) j = ap (λ (h : A). h ∷ xs) is ∙ ap (λ (t : List A). y ∷ t) (rest more is)
      both_heads more (inr i) (inl is) = ap (λ (h : A). h ∷ xs) (sym is) ∙ ap (λ (t : List A). y ∷ t) (rest more (sym is))
      both_heads more (inr i) (inr j) = elim (cases_Bool (comes_before (key x) (key y))) [
        | inl lt ↦ absurd (below x y ys up' i lt)
        | inr later ↦ absurd (below y x xs up j (before_other (key x) (key y) later (apart)))
      ]
        where
          apart : same_name (key y) (key x) ≡ false
          apart = elim (cases_Bool (same_name (key y) (key x))) [
            | inl is ↦ absurd (true≢false (sym (has-among ys x i) ∙ ap (λ (w : Text). has_key key w ys) (sym (same_name-is (key y) (key x) is)) ∙ first_once y ys up'))
            | inr other ↦ other
          ]

  -- what goes in at its place is counted
  sum-insert : (f : A → ℕ) (x : A) (xs : List A) → sum_by f (insert_by key x xs) ≡ f x + sum_by f xs
  sum-insert f x [] = sum_by-cons f x []
  sum-insert f x (y ∷ ys) = elim (cases_Bool (comes_before (key x) (key y))) [
    | inl first ↦ ap (λ t. sum_by f (cond t (x ∷ y ∷ ys) (y ∷ insert_by key x ys))) first ∙ sum_by-cons f x (y ∷ ys)
    | inr later ↦ ap (λ t. sum_by f (cond t (x ∷ y ∷ ys) (y ∷ insert_by key x ys))) later ∙ sum_by-cons f y (insert_by key x ys)
        ∙ ap (λ (n : ℕ). f y + n) (sum-insert f x ys) ∙ (omega arith) ∙ ap (λ (n : ℕ). f x + n) (sym (sum_by-cons f y ys))
  ]

  sum-with_all : (f : A → ℕ) (late sorted : List A) → sum_by f (with_all key late sorted) ≡ sum_by f sorted + sum_by f late
  sum-with_all f [] sorted = omega arith
  sum-with_all f (x ∷ late) sorted =
      let e = sum-with_all f late (insert_by key x sorted) in
      let e' = sum-insert f x sorted in
      let e'' = sum_by-cons f x late in
      omega (arith, e, e', e'')

  all-insert : (P : A → Type 0) (x : A) (xs : List A) → P x → All P xs → All P (insert_by key x xs)
  all-insert P x [] here all = All-cons P x [] here all
  all-insert P x (y ∷ ys) here all = elim (cases_Bool (comes_before (key x) (key y))) [
    | inl first ↦ subst (λ (t : Bool). All P (cond t (x ∷ y ∷ ys) (y ∷ insert_by key x ys))) (sym first) (All-cons P x (y ∷ ys) here all)
    | inr later ↦ subst (λ (t : Bool). All P (cond t (x ∷ y ∷ ys) (y ∷ insert_by key x ys))) (sym later)
        (All-cons P y (insert_by key x ys) (All-head P y ys all) (all-insert P x ys here (All-tail P y ys all)))
  ]

  all_inserted : (P : A → Type 0) (x : A) (xs : List A) → All P (insert_by key x xs) → P x × All P xs
  all_inserted P x [] all = (All-head P x [] all, All-nil P)
  all_inserted P x (y ∷ ys) all = at (cases_Bool (comes_before (key x) (key y))) (all_inserted P x ys)
    where
      at : (comes_before (key x) (key y) ≡ true) ⊎ (comes_before (key x) (key y) ≡ false) → (All P (insert_by key x ys) → P x × All P ys) → P x × All P (y ∷ ys)
      at (inl first) deeper =
          let all' : All P (x ∷ y ∷ ys) = subst (λ (t : Bool). All P (cond t (x ∷ y ∷ ys) (y ∷ insert_by key x ys))) first all in
          (All-head P x (y ∷ ys) all', All-tail P x (y ∷ ys) all')
      at (inr later) deeper =
          let all' : All P (y ∷ insert_by key x ys) = subst (λ (t : Bool). All P (cond t (x ∷ y ∷ ys) (y ∷ insert_by key x ys))) later all in
          let more = deeper (All-tail P y (insert_by key x ys) all') in
          (more.0, All-cons P y ys (All-head P y (insert_by key x ys) all') more.1)

  all-with_all : (P : A → Type 0) (late sorted : List A) → All P sorted → All P late → All P (with_all key late sorted)
  all-with_all P [] sorted all all' = all
  all-with_all P (x ∷ late) sorted all all' = all-with_all P late (insert_by key x sorted) (all-insert P x sorted (All-head P x late all') all) (All-tail P x late all')

  all_gathered : (P : A → Type 0) (late sorted : List A) → All P (with_all key late sorted) → All P sorted × All P late
  all_gathered P [] sorted all = (all, All-nil P)
  all_gathered P (x ∷ late) sorted all =
      let more = all_gathered P late (insert_by key x sorted) all in
      let own = all_inserted P x sorted more.0 in
      (own.1, All-cons P x late own.0 more.1)

  all_at : (P : A → Type 0) (xs : List A) (z : A) → All P xs → Among xs z → P z
  all_at P [] z all i = absurd i
  all_at P (x ∷ xs) z all (inl e) = subst P (sym e) (All-head P x xs all)
  all_at P (x ∷ xs) z all (inr i) = all_at P xs z (All-tail P x xs all) i

  -- elements that were sorted by their keys are those that went in one by one
  pub in_order : (late sorted new : List A) → is_rising key (with_all key late sorted) ≡ true → IsInOrder key (sorted ++ late) new → new ≡ with_all key late sorted
  in_order late sorted new up moved = rising_same new all rising up to from
    where
      all : List A
      all = with_all key late sorted

      rising : is_rising key new ≡ true
      rising = rising_ordered new (λ k d lt. subst (λ (n : ℕ). comes_before (key (get_or new n d)) (key (get_or new k d)) ≡ false) (omega arith) (moved.order k d (omega (arith, lt)))) (λ wanted.
          let le = single_rising all up wanted in
          let e = sum-with_all (hit wanted) late sorted in
          let e' = sum_by-append (hit wanted) sorted late in
          let e'' = sum_by-IsPermutation (hit wanted) (sorted ++ late) new moved.same in
          omega (arith, le, e, e', e''))

      to : (z : A) → Among new z → Among all z
      to z i =
          let parts = all_gathered (Among all) late sorted (among_self all) in
          all_at (Among all) new z (All-permutation (Among all) (sorted ++ late) new moved.same (All-append (Among all) sorted late parts.0 parts.1)) i

      from : (z : A) → Among all z → Among new z
      from z i =
          let whole = All-permutation (Among new) new (sorted ++ late) (IsPermutation-sym (sorted ++ late) new moved.same) (among_self new) in
          all_at (Among new) all z (all-with_all (Among new) late sorted (first_all sorted whole) (last_all sorted whole)) i
        where
          first_all : (xs : List A) → All (Among new) (xs ++ late) → All (Among new) xs
          first_all [] a = All-nil (Among new)
          first_all (x ∷ xs) a = All-cons (Among new) x xs (All-head (Among new) x (xs ++ late) a) (first_all xs (All-tail (Among new) x (xs ++ late) a))

          last_all : (xs : List A) → All (Among new) (xs ++ late) → All (Among new) late
          last_all [] a = a
          last_all (x ∷ xs) a = last_all xs (All-tail (Among new) x (xs ++ late) a)
