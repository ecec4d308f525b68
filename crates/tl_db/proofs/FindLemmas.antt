-- The one element with a key among elements that rise by their keys.
use Rattle.std.proofs.Common.{◌≡◌, ℕ, zero, suc, ◌<◌, Bool, true, false, cond, ◌&&◌, ◌||◌, not, List, [], ◌∷◌, ◌++◌, length, get_or, set, take, drop, Some, None, Result, Ok, Err, refl, sym, ap, subst, ◌∙◌, arith}
use Rattle.std.specs.Prelude.{find, filter, OnOk}
use Rattle.tl_model.specs.Volume.{same_name, same_name-is}
use Rattle.tl_entry.specs.Rising.{comes_before, insert_by, has_key, is_rising, is_rising_after}
use Rattle.tl_entry.proofs.RisingLemmas.{before_trans, before_not, before_apart, before_apart_back, present_at, rising-insert}

both : (a b : Bool) → (a && b) ≡ true → (a ≡ true) × (b ≡ true)
both true b e = (refl, e)
both false b e = absurd (cc)

neither : (a b : Bool) → (a || b) ≡ false → (a ≡ false) × (b ≡ false)
neither true b e = absurd (cc)
neither false b e = (refl, e)

module _ {A : Type 0} (key : A → List ℕ) where
  tail_rising : (x : A) (xs : List A) → is_rising_after key x xs ≡ true → is_rising key xs ≡ true
  tail_rising x [] e = refl
  tail_rising x (y ∷ ys) e = (both _ _ e).1

  rising_far : (x : A) (xs : List A) (i : ℕ) (d : A) → is_rising_after key x xs ≡ true → i < length xs → comes_before (key x) (key (get_or xs i d)) ≡ true
  rising_far x [] i d up lt = absurd (omega arith)
  rising_far x (y ∷ ys) zero d up lt = (both _ _ up).0
  rising_far x (y ∷ ys) (suc i) d up lt = before_trans (key x) (key y) _ (both _ _ up).0 (rising_far y ys i d (both _ _ up).1 (omega arith))

  pub find_at : (wanted : List ℕ) (xs : List A) (i : ℕ) (d : A) → is_rising key xs ≡ true → i < length xs → same_name (key (get_or xs i d)) wanted ≡ true
      → find (λ x. same_name (key x) wanted) xs ≡ Some (get_or xs i d)
  find_at wanted [] i d up lt is = absurd (omega arith)
  find_at wanted (x ∷ xs) zero d up lt is = ap (λ t. cond t (Some x) (find (λ y. same_name (key y) wanted) xs)) is
  find_at wanted (x ∷ xs) (suc i) d up lt is =
      let here : key (get_or xs i d) ≡ wanted = same_name-is _ _ is in
      let less : comes_before (key x) wanted ≡ true = subst (λ (k : List ℕ). comes_before (key x) k ≡ true) here (rising_far x xs i d up (omega arith)) in
      ap (λ t. cond t (Some x) (find (λ y. same_name (key y) wanted) xs)) (before_apart (key x) wanted less)
      ∙ find_at wanted xs i d (tail_rising x xs up) (omega arith) is

  pub find_none : (wanted : List ℕ) (xs : List A) → has_key key wanted xs ≡ false → find (λ x. same_name (key x) wanted) xs ≡ None
  find_none wanted [] none = refl
  find_none wanted (x ∷ xs) none =
      ap (λ t. cond t (Some x) (find (λ y. same_name (key y) wanted) xs)) (neither _ _ none).0 ∙ find_none wanted xs (neither _ _ none).1

  -- the element at the place of a key is the one that is found by it
  pub found : (wanted given : List ℕ) (xs items : List A) (i : ℕ) (x : A) → items ≡ xs → given ≡ wanted → is_rising key xs ≡ true → i < length items
      → ((d : A) → same_name (key (get_or items i d)) given ≡ true) → x ≡ get_or xs i x → Some x ≡ find (λ y. same_name (key y) wanted) xs
  found wanted given xs items i x same is up lt has at =
      let here : same_name (key (get_or xs i x)) wanted ≡ true =
      subst (λ (w : List ℕ). same_name (key (get_or xs i x)) w ≡ true) is (subst (λ (ys : List A). same_name (key (get_or ys i x)) given ≡ true) same (has x)) in
      let within : i < length xs = subst (λ (ys : List A). i < length ys) same lt in
      ap (λ y. Some y) at ∙ sym (find_at wanted xs i x up within here)

  pub missing : (wanted given : List ℕ) (xs items : List A) → items ≡ xs → given ≡ wanted → has_key key given items ≡ false → None ≡ find (λ y. same_name (key y) wanted) xs
  missing wanted given xs items same is none =
      sym (find_none wanted xs (subst (λ (w : List ℕ). has_key key w xs ≡ false) is (subst (λ (ys : List A). has_key key given ys ≡ false) same none)))

  abbrev pub is_other : List ℕ → A → Bool
  is_other wanted x = not (same_name (key x) wanted)

  weaken : (x y : A) (ys : List A) → comes_before (key x) (key y) ≡ true → is_rising_after key y ys ≡ true → is_rising_after key x ys ≡ true
  weaken x y [] lt up = refl
  weaken x y (z ∷ zs) lt up = ap (λ t. t && is_rising_after key z zs) (before_trans (key x) (key y) (key z) lt (both _ _ up).0) ∙ (both _ _ up).1

  keep_rising : (t : Bool) (x y : A) (ys : List A) → comes_before (key x) (key y) ≡ true → is_rising_after key y ys ≡ true → is_rising_after key x ys ≡ true
      → is_rising_after key x (cond t (y ∷ ys) ys) ≡ true
  keep_rising true x y ys lt up other = ap (λ t. t && is_rising_after key y ys) lt ∙ up
  keep_rising false x y ys lt up other = other

  rising_after-filter : (p : A → Bool) (x : A) (xs : List A) → is_rising_after key x xs ≡ true → is_rising_after key x (filter p xs) ≡ true
  rising_after-filter p x [] up = refl
  rising_after-filter p x (y ∷ ys) up =
      keep_rising (p y) x y (filter p ys) (both _ _ up).0 (rising_after-filter p y ys (both _ _ up).1)
      (rising_after-filter p x ys (weaken x y ys (both _ _ up).0 (both _ _ up).1))

  kept_rising : (t : Bool) (x : A) (xs : List A) → is_rising_after key x xs ≡ true → is_rising key xs ≡ true → is_rising key (cond t (x ∷ xs) xs) ≡ true
  kept_rising true x xs up other = up
  kept_rising false x xs up other = other

  -- what is left of a rising list rises
  pub rising-filter : (p : A → Bool) (xs : List A) → is_rising key xs ≡ true → is_rising key (filter p xs) ≡ true
  rising-filter p [] up = refl
  rising-filter p (x ∷ xs) up = kept_rising (p x) x (filter p xs) (rising_after-filter p x xs up) (rising-filter p xs (tail_rising x xs up))

  none_after : (wanted : List ℕ) (x : A) (xs : List A) → key x ≡ wanted → is_rising_after key x xs ≡ true → has_key key wanted xs ≡ false
  none_after wanted x [] is up = refl
  none_after wanted x (y ∷ ys) is up =
      let lt : comes_before wanted (key y) ≡ true = subst (λ (k : List ℕ). comes_before k (key y) ≡ true) is (both _ _ up).0 in
      ap (λ t. t || has_key key wanted ys) (before_apart_back wanted (key y) lt)
      ∙ none_after wanted x ys is (weaken x y ys (both _ _ up).0 (both _ _ up).1)

  -- where no element has a key, none is left out
  pub filter_none : (wanted : List ℕ) (xs : List A) → has_key key wanted xs ≡ false → filter (is_other wanted) xs ≡ xs
  filter_none wanted [] none = refl
  filter_none wanted (x ∷ xs) none =
      ap (λ t. cond (not t) (x ∷ filter (is_other wanted) xs) (filter (is_other wanted) xs)) (neither _ _ none).0
      ∙ ap (λ (ys : List A). x ∷ ys) (filter_none wanted xs (neither _ _ none).1)

  -- the element at the place of a key is the one that is left out
  pub remove_at : (wanted : List ℕ) (xs : List A) (i : ℕ) (d : A) → is_rising key xs ≡ true → i < length xs → same_name (key (get_or xs i d)) wanted ≡ true
      → take i xs ++ drop (suc i) xs ≡ filter (is_other wanted) xs
  remove_at wanted [] i d up lt is = absurd (omega arith)
  remove_at wanted (x ∷ xs) zero d up lt is =
      sym (ap (λ t. cond (not t) (x ∷ filter (is_other wanted) xs) (filter (is_other wanted) xs)) is
      ∙ filter_none wanted xs (none_after wanted x xs (same_name-is _ _ is) up))
  remove_at wanted (x ∷ xs) (suc i) d up lt is =
      let here : key (get_or xs i d) ≡ wanted = same_name-is _ _ is in
      let less : comes_before (key x) wanted ≡ true = subst (λ (k : List ℕ). comes_before (key x) k ≡ true) here (rising_far x xs i d up (omega arith)) in
      ap (λ (ys : List A). x ∷ ys) (remove_at wanted xs i d (tail_rising x xs up) (omega arith) is)
      ∙ sym (ap (λ t. cond (not t) (x ∷ filter (is_other wanted) xs) (filter (is_other wanted) xs)) (before_apart (key x) wanted less))

  pub record Left (wanted : List ℕ) (xs new : List A) : Type 0 where
    pub there : has_key key wanted xs ≡ true
    pub same : new ≡ filter (is_other wanted) xs
    pub rising : is_rising key new ≡ true

  -- what is left without the element at the place of a key
  pub left_out : (wanted given : List ℕ) (xs items new : List A) (i : ℕ) (d : A) → items ≡ xs → given ≡ wanted → is_rising key xs ≡ true → i < length items
      → ((e : A) → same_name (key (get_or items i e)) given ≡ true) → new ≡ take i xs ++ drop (suc i) xs → Left wanted xs new
  left_out wanted given xs items new i d same is up lt has after =
      let here : same_name (key (get_or xs i d)) wanted ≡ true =
      subst (λ (w : List ℕ). same_name (key (get_or xs i d)) w ≡ true) is (subst (λ (ys : List A). same_name (key (get_or ys i d)) given ≡ true) same (has d)) in
      let within : i < length xs = subst (λ (ys : List A). i < length ys) same lt in
      let e : new ≡ filter (is_other wanted) xs = after ∙ remove_at wanted xs i d up within here in
      record { there = present_at key wanted xs i d within here; same = e; rising = subst (λ (ys : List A). is_rising key ys ≡ true) (sym e) (rising-filter (is_other wanted) xs up) }

  pub nothing_left_out : (wanted given : List ℕ) (xs items : List A) → items ≡ xs → given ≡ wanted → has_key key given items ≡ false → (has_key key wanted xs ≡ false) × (xs ≡ filter (is_other wanted) xs)
  nothing_left_out wanted given xs items same is none =
      let gone : has_key key wanted xs ≡ false = subst (λ (w : List ℕ). has_key key w xs ≡ false) is (subst (λ (ys : List A). has_key key given ys ≡ false) same none) in
      (gone, sym (filter_none wanted xs gone))

  insert_first : (x y : A) (ys : List A) → is_rising_after key y ys ≡ true → key y ≡ key x → insert_by key x ys ≡ x ∷ ys
  insert_first x y [] up is = refl
  insert_first x y (z ∷ zs) up is =
      let lt : comes_before (key x) (key z) ≡ true = subst (λ (k : List ℕ). comes_before k (key z) ≡ true) is (both _ _ up).0 in
      ap (λ t. cond t (x ∷ z ∷ zs) (z ∷ insert_by key x zs)) lt

  -- an element in the place of the one with its key
  pub set_at : (x : A) (xs : List A) (i : ℕ) (d : A) → is_rising key xs ≡ true → i < length xs → same_name (key (get_or xs i d)) (key x) ≡ true
      → set xs i x ≡ insert_by key x (filter (is_other (key x)) xs)
  set_at x [] i d up lt is = absurd (omega arith)
  set_at x (y ∷ ys) zero d up lt is =
      let same : key y ≡ key x = same_name-is _ _ is in
      let rest : filter (is_other (key x)) (y ∷ ys) ≡ ys =
      ap (λ t. cond (not t) (y ∷ filter (is_other (key x)) ys) (filter (is_other (key x)) ys)) is ∙ filter_none (key x) ys (none_after (key x) y ys same up) in
      sym (ap (insert_by key x) rest ∙ insert_first x y ys up same)
  set_at x (y ∷ ys) (suc i) d up lt is =
      let here : key (get_or ys i d) ≡ key x = same_name-is _ _ is in
      let less : comes_before (key y) (key x) ≡ true = subst (λ (k : List ℕ). comes_before (key y) k ≡ true) here (rising_far y ys i d up (omega arith)) in
      let kept : filter (is_other (key x)) (y ∷ ys) ≡ y ∷ filter (is_other (key x)) ys =
      ap (λ t. cond (not t) (y ∷ filter (is_other (key x)) ys) (filter (is_other (key x)) ys)) (before_apart (key y) (key x) less) in
      ap (λ (zs : List A). y ∷ zs) (set_at x ys i d (tail_rising y ys up) (omega arith) is)
      ∙ sym (ap (insert_by key x) kept ∙ ap (λ t. cond t (x ∷ y ∷ filter (is_other (key x)) ys) (y ∷ insert_by key x (filter (is_other (key x)) ys))) (before_not (key y) (key x) less))

  -- no element that is left has the key
  pub filter_gone : (wanted : List ℕ) (xs : List A) → has_key key wanted (filter (is_other wanted) xs) ≡ false
  filter_gone wanted [] = refl
  filter_gone wanted (x ∷ xs) = kept_gone (same_name (key x) wanted) refl (filter_gone wanted xs)
    where
      kept_gone : (t : Bool) → same_name (key x) wanted ≡ t → has_key key wanted (filter (is_other wanted) xs) ≡ false
          → has_key key wanted (cond (not t) (x ∷ filter (is_other wanted) xs) (filter (is_other wanted) xs)) ≡ false
      kept_gone true is rest = rest
      kept_gone false is rest = ap (λ t. t || has_key key wanted (filter (is_other wanted) xs)) is ∙ rest

  pub record Replaced (x : A) (xs new : List A) : Type 0 where
    pub same : new ≡ insert_by key x (filter (is_other (key x)) xs)
    pub rising : is_rising key new ≡ true

  pub replaced : (x : A) (given : List ℕ) (xs items new : List A) (i : ℕ) → items ≡ xs → given ≡ key x → is_rising key xs ≡ true → i < length items
      → ((e : A) → same_name (key (get_or items i e)) given ≡ true) → new ≡ set xs i x → Replaced x xs new
  replaced x given xs items new i same is up lt has after =
      let here : same_name (key (get_or xs i x)) (key x) ≡ true =
      subst (λ (w : List ℕ). same_name (key (get_or xs i x)) w ≡ true) is (subst (λ (ys : List A). same_name (key (get_or ys i x)) given ≡ true) same (has x)) in
      let within : i < length xs = subst (λ (ys : List A). i < length ys) same lt in
      let e : new ≡ insert_by key x (filter (is_other (key x)) xs) = after ∙ set_at x xs i x up within here in
      record { same = e; rising = subst (λ (ys : List A). is_rising key ys ≡ true) (sym e) (rising-insert key x _ (rising-filter (is_other (key x)) xs up) (filter_gone (key x) xs)) }

  pub added : (x : A) (given : List ℕ) (xs items : List A) → items ≡ xs → given ≡ key x → has_key key given items ≡ false → xs ≡ filter (is_other (key x)) xs
  added x given xs items same is none = (nothing_left_out (key x) given xs items same is none).1

  -- an element that was added where no other has its key
  pub put_in : (x : A) (given : List ℕ) (xs items : List A) {E : Type 0} (r : Result (Unit {0}) E) (new : List A) → items ≡ xs → given ≡ key x → has_key key given items ≡ false
      → OnOk r (new ≡ insert_by key x xs) → OnOk r (new ≡ insert_by key x (filter (is_other (key x)) xs))
  put_in x given xs items (Ok u) new same is none after = after ∙ ap (insert_by key x) (added x given xs items same is none)
  put_in x given xs items (Err e) new same is none after = tt
