-- Lists that rise by a key, as their elements come.
use Rattle.std.proofs.Common.{◌≡◌, zero, suc, ◌<◌, get_or, arith, ℕ, Bool, true, false, ◌||◌, List, [], ◌∷◌, ◌++◌, length, cond, ◌⊎◌, inl, inr, refl, sym, ap, subst, ◌∙◌}
use Rattle.std.specs.Prelude.{Vec, Result, Ok, Err, IfOk, OnErr, MatchBool}
use Rattle.std.specs.Ordering.{nat_cmp, is_eq, ordering_reverse, match_ordering}
use Rattle.std.specs.declared.cmp.Ordering.{Ordering}
use Rattle.std.specs.declared.cmp.Ordering.TheVariants.{Less, Equal, Greater}
use Rattle.std.specs.Cmp.Lexicographic.{slice_cmp}
use Rattle.std.specs.List.{insert, list_any}
use Rattle.std.specs.BTreeSet.{insert_key}
use Rattle.std.proofs.lemmas.Bool.{cases_Bool, true≢false}
use Rattle.std.proofs.lemmas.Cmp.{nat_list_cmp_total}
use Rattle.tl_model.specs.Volume.{same_name, same_name-is}
use Rattle.tl_entry.specs.Rising.{comes_before, insert_by, has_key, is_rising, IsPlace}
use Rattle.tl_entry.specs.Gathering.{with_all, IsKeySet, AreGathered}
use Rattle.tl_entry.proofs.RisingLemmas.{absent_at, insert_at, rising-insert, before_trans, before_not, before_apart, before_other}
use Rattle.tl_entry.proofs.SetLemmas.{has-insert}

abbrev Text : Type 0
Text = List ℕ

or_turned : (a b c : Bool) → (a || (b || c)) ≡ ((b || a) || c)
or_turned true true c = refl
or_turned true false c = refl
or_turned false true c = refl
or_turned false false c = refl

or_comm : (a b c : Bool) → (a || (b || c)) ≡ (b || (a || c))
or_comm true true c = refl
or_comm true false c = refl
or_comm false true c = refl
or_comm false false c = refl

apart_parts : (a b : Bool) → (a || b) ≡ false → (a ≡ false) × (b ≡ false)
apart_parts true b e = absurd (cc)
apart_parts false b e = (refl, e)

or_twice : (a b c : Bool) → a ≡ b → (b || c) ≡ (a || (b || c))
or_twice true b c e = subst (λ (t : Bool). (t || c) ≡ true) e refl
or_twice false b c e = refl

module _ {A : Type 0} (key : A → Text) where
  -- an element at the end of a list
  insert_last : (xs : List A) (x : A) → insert xs (length xs) x ≡ xs ++ x ∷ []
  insert_last [] x = refl
  insert_last (y ∷ ys) x = ap (λ (zs : List A). y ∷ zs) (insert_last ys x)

  pub has-with_all : (wanted : Text) (late sorted : List A) → has_key key wanted (with_all key late sorted) ≡ (has_key key wanted late || has_key key wanted sorted)
  has-with_all wanted [] sorted = refl
  has-with_all wanted (x ∷ late) sorted =
      has-with_all wanted late (insert_by key x sorted) ∙ ap (λ t. has_key key wanted late || t) (has-insert key wanted x sorted)
      ∙ or_turned (has_key key wanted late) (same_name (key x) wanted) (has_key key wanted sorted)

  or_true : (a : Bool) → (a || true) ≡ true
  or_true true = refl
  or_true false = refl

  -- what is among the sorted is among all
  pub among_sorted : (wanted : Text) (late sorted : List A) → has_key key wanted sorted ≡ true → has_key key wanted (with_all key late sorted) ≡ true
  among_sorted wanted late sorted there = has-with_all wanted late sorted ∙ ap (λ t. has_key key wanted late || t) there ∙ or_true (has_key key wanted late)

  or_false : (a : Bool) → (a || false) ≡ a
  or_false true = refl
  or_false false = refl

  -- what isn't among the sorted is among all where it is among the late ones
  pub among_late : (wanted : Text) (late sorted : List A) → has_key key wanted sorted ≡ false → has_key key wanted (with_all key late sorted) ≡ has_key key wanted late
  among_late wanted late sorted none = has-with_all wanted late sorted ∙ ap (λ t. has_key key wanted late || t) none ∙ or_false (has_key key wanted late)

  pub place_at : (x : A) (wanted : Text) (items xs : List A) (at : ℕ) → wanted ≡ key x → items ≡ xs → IsPlace key wanted items at → IsPlace key (key x) xs at
  place_at x wanted items xs at is same place = subst (λ (w : Text). IsPlace key w xs at) is (subst (λ (ys : List A). IsPlace key wanted ys at) same place)

  pub with_all-more : (late sorted : List A) (x : A) → with_all key (late ++ x ∷ []) sorted ≡ insert_by key x (with_all key late sorted)
  with_all-more [] sorted x = refl
  with_all-more (y ∷ late) sorted x = with_all-more late (insert_by key y sorted) x

  pub has-append : (wanted : Text) (xs : List A) (x : A) → has_key key wanted (xs ++ x ∷ []) ≡ (same_name (key x) wanted || has_key key wanted xs)
  has-append wanted [] x = refl
  has-append wanted (y ∷ xs) x = ap (λ t. same_name (key y) wanted || t) (has-append wanted xs x) ∙ or_comm (same_name (key y) wanted) (same_name (key x) wanted) (has_key key wanted xs)

  -- what an element that was added leaves
  pub record Added (x : A) (old new : List A) : Type 0 where
    pub absent : has_key key (key x) old ≡ false
    pub same : new ≡ insert_by key x old

  -- an element with a greater key than all goes to the end
  pub added_last : (x : A) (sorted : List A) → is_rising key sorted ≡ true → IsPlace key (key x) sorted (length sorted)
      → Added x sorted (sorted ++ x ∷ []) × (is_rising key (sorted ++ x ∷ []) ≡ true)
  added_last x sorted up place =
      let none = absent_at key (key x) sorted (length sorted) place in
      let e : sorted ++ x ∷ [] ≡ insert_by key x sorted = sym (insert_last sorted x) ∙ sym (insert_at key x sorted (length sorted) place) in
      (record { absent = none; same = e }, subst (λ (ys : List A). is_rising key ys ≡ true) (sym e) (rising-insert key x sorted up none))

  goes_first : (x y : A) (xs : List A) → comes_before (key x) (key y) ≡ true → insert_by key x (y ∷ xs) ≡ x ∷ y ∷ xs
  goes_first x y xs e = ap (λ t. cond t (x ∷ y ∷ xs) (y ∷ insert_by key x xs)) e

  goes_later : (x y : A) (xs : List A) → comes_before (key x) (key y) ≡ false → insert_by key x (y ∷ xs) ≡ y ∷ insert_by key x xs
  goes_later x y xs e = ap (λ t. cond t (x ∷ y ∷ xs) (y ∷ insert_by key x xs)) e

  -- what is behind a third doesn't come before what is before it
  not_crossed : (a b c : Text) → comes_before a c ≡ true → comes_before b c ≡ false → comes_before b a ≡ false
  not_crossed a b c lt later = elim (cases_Bool (comes_before b a)) [
    | inl lt' ↦ absurd (true≢false (sym (before_trans b a c lt' lt) ∙ later))
    | inr other ↦ other
  ]

  -- two elements with different keys go in in either order
  insert_swap : (x y : A) (xs : List A) → same_name (key y) (key x) ≡ false → insert_by key y (insert_by key x xs) ≡ insert_by key x (insert_by key y xs)
  insert_swap x y [] apart = elim (cases_Bool (comes_before (key x) (key y))) [
    | inl lt ↦ goes_later y x [] (before_not (key x) (key y) lt) ∙ sym (goes_first x y [] lt)
    | inr later ↦ goes_first y x [] (before_other (key x) (key y) later apart) ∙ sym (goes_later x y [] later)
  ]
  insert_swap x y (z ∷ xs) apart = at (cases_Bool (comes_before (key x) (key z))) (cases_Bool (comes_before (key y) (key z))) (cases_Bool (comes_before (key x) (key y))) (insert_swap x y xs apart)
    where
      at : (comes_before (key x) (key z) ≡ true) ⊎ (comes_before (key x) (key z) ≡ false) → (comes_before (key y) (key z) ≡ true) ⊎ (comes_before (key y) (key z) ≡ false)
          → (comes_before (key x) (key y) ≡ true) ⊎ (comes_before (key x) (key y) ≡ false) → insert_by key y (insert_by key x xs) ≡ insert_by key x (insert_by key y xs)
          → insert_by key y (insert_by key x (z ∷ xs)) ≡ insert_by key x (insert_by key y (z ∷ xs))
      at (inl xz) (inl yz) (inl xy) more =
          ap (insert_by key y) (goes_first x z xs xz) ∙ goes_later y x (z ∷ xs) (before_not (key x) (key y) xy) ∙ ap (λ (l : List A). x ∷ l) (goes_first y z xs yz)
          ∙ sym (ap (insert_by key x) (goes_first y z xs yz) ∙ goes_first x y (z ∷ xs) xy)
      at (inl xz) (inl yz) (inr yx) more =
          ap (insert_by key y) (goes_first x z xs xz) ∙ goes_first y x (z ∷ xs) (before_other (key x) (key y) yx apart)
          ∙ sym (ap (insert_by key x) (goes_first y z xs yz) ∙ goes_later x y (z ∷ xs) yx ∙ ap (λ (l : List A). y ∷ l) (goes_first x z xs xz))
      at (inl xz) (inr zy) xy more =
          ap (insert_by key y) (goes_first x z xs xz) ∙ goes_later y x (z ∷ xs) (not_crossed (key x) (key y) (key z) xz zy) ∙ ap (λ (l : List A). x ∷ l) (goes_later y z xs zy)
          ∙ sym (ap (insert_by key x) (goes_later y z xs zy) ∙ goes_first x z (insert_by key y xs) xz)
      at (inr zx) (inl yz) xy more =
          ap (insert_by key y) (goes_later x z xs zx) ∙ goes_first y z (insert_by key x xs) yz
          ∙ sym (ap (insert_by key x) (goes_first y z xs yz) ∙ goes_later x y (z ∷ xs) (not_crossed (key y) (key x) (key z) yz zx) ∙ ap (λ (l : List A). y ∷ l) (goes_later x z xs zx))
      at (inr zx) (inr zy) xy more =
          ap (insert_by key y) (goes_later x z xs zx) ∙ goes_later y z (insert_by key x xs) zy ∙ ap (λ (l : List A). z ∷ l) more
          ∙ sym (ap (insert_by key x) (goes_later y z xs zy) ∙ goes_later x z (insert_by key y xs) zx)

  -- an element may go in before the late ones, where none of them has its key
  with_all-first : (late sorted : List A) (x : A) → has_key key (key x) late ≡ false → with_all key late (insert_by key x sorted) ≡ insert_by key x (with_all key late sorted)
  with_all-first [] sorted x none = refl
  with_all-first (y ∷ late) sorted x none =
      ap (λ (l : List A). with_all key late l) (insert_swap x y sorted (apart_parts _ _ none).0) ∙ with_all-first late (insert_by key y sorted) x (apart_parts _ _ none).1

  front_read : (xs : List A) (x d : A) (k : ℕ) → k < length xs → get_or (xs ++ x ∷ []) k d ≡ get_or xs k d
  front_read [] x d k lt = absurd (omega arith)
  front_read (y ∷ ys) x d zero lt = refl
  front_read (y ∷ ys) x d (suc k) lt = front_read ys x d k (omega arith)

  length_last : (xs : List A) (x : A) → length (xs ++ x ∷ []) ≡ suc (length xs)
  length_last [] x = refl
  length_last (y ∷ ys) x = ap suc (length_last ys x)

  -- what is above all of a list is above all but the last
  above_front : (wanted : Text) (xs : List A) (x : A) → IsPlace key wanted (xs ++ x ∷ []) (length (xs ++ x ∷ [])) → IsPlace key wanted xs (length xs)
  above_front wanted xs x place =
      let e = length_last xs x in
      record {
        within = omega arith;
        below = λ k d lt. subst (λ (y : A). comes_before (key y) wanted ≡ true) (front_read xs x d k lt) (place.below k d (omega (arith, e)));
        above = λ k d le lt. absurd (omega arith);
      }

  -- what an element leaves that goes to the end
  pub record AddedLast (x : A) (sorted late new : List A) : Type 0 where
    pub absent : has_key key (key x) (with_all key late sorted) ≡ false
    pub same : with_all key late new ≡ insert_by key x (with_all key late sorted)
    pub gathered : AreGathered key new late

  pub after_last : (x : A) (sorted late new : List A) (at : ℕ) → AreGathered key sorted late → IsPlace key (key x) sorted at → at ≡ length sorted → new ≡ sorted ++ x ∷ [] → AddedLast x sorted late new
  after_last x sorted late new at old place end after =
      let high = subst (λ (n : ℕ). IsPlace key (key x) sorted n) end place in
      let p = added_last x sorted old.sorted_rises high in
      let none = old.none_above (key x) high in
      let is : new ≡ insert_by key x sorted = after ∙ p.0.same in
      let e : with_all key late new ≡ insert_by key x (with_all key late sorted) = ap (with_all key late) is ∙ with_all-first late sorted x none in
      let none' : has_key key (key x) (with_all key late sorted) ≡ false = has-with_all (key x) late sorted ∙ ap (λ t. t || has_key key (key x) sorted) none ∙ p.0.absent in
      record {
        absent = none';
        same = e;
        gathered = record {
          sorted_rises = subst (λ (ys : List A). is_rising key ys ≡ true) (sym after) p.1;
          all_rises = subst (λ (ys : List A). is_rising key ys ≡ true) (sym e) (rising-insert key x (with_all key late sorted) old.all_rises none');
          none_above = λ wanted above. old.none_above wanted (above_front wanted sorted x (subst (λ (ys : List A). IsPlace key wanted ys (length ys)) after above));
        };
      }

  -- an element that is neither among the sorted nor among the late ones goes to the late ones
  added_late : (x : A) (sorted late : List A) (at : ℕ) → AreGathered key sorted late → IsPlace key (key x) sorted at → at < length sorted → has_key key (key x) late ≡ false
      → Added x (with_all key late sorted) (with_all key (late ++ x ∷ []) sorted) × AreGathered key sorted (late ++ x ∷ [])
  added_late x sorted late at old place lt apart' =
      let apart = absent_at key (key x) sorted at place in
      let none : has_key key (key x) (with_all key late sorted) ≡ false = has-with_all (key x) late sorted ∙ ap (λ t. t || has_key key (key x) sorted) apart' ∙ apart in
      let e = with_all-more late sorted x in (
        record { absent = none; same = e },
        record {
          sorted_rises = old.sorted_rises;
          all_rises = subst (λ (ys : List A). is_rising key ys ≡ true) (sym e) (rising-insert key x (with_all key late sorted) old.all_rises none);
          none_above = λ wanted high.
              let below = before_trans (key x) (key (get_or sorted at x)) wanted (place.above at x (omega arith) lt) (high.below at x lt) in
              has-append wanted late x ∙ ap (λ t. t || has_key key wanted late) (before_apart (key x) wanted below) ∙ old.none_above wanted high;
        },
      )

  -- what an element leaves that goes to the late ones, unless its key is among theirs
  pub after_late : {E : Type 0} (r : Result Bool E) (x : A) (sorted late late' : List A) (at : ℕ) → AreGathered key sorted late → IsPlace key (key x) sorted at → at < length sorted
      → IfOk r (λ added. MatchBool added ((has_key key (key x) late ≡ false) × (late' ≡ late ++ x ∷ [])) ((has_key key (key x) late ≡ true) × (late' ≡ late))) → OnErr r (late' ≡ late)
      → AreGathered key sorted late' × (IfOk r (λ added. MatchBool added
      ((has_key key (key x) (with_all key late sorted) ≡ false) × (with_all key late' sorted ≡ insert_by key x (with_all key late sorted)))
      ((has_key key (key x) (with_all key late sorted) ≡ true) × (with_all key late' sorted ≡ with_all key late sorted)))
      × OnErr r (with_all key late' sorted ≡ with_all key late sorted))
  after_late (Ok true) x sorted late late' at old place lt ok err =
      let p = added_late x sorted late at old place lt ok.0 in
      (subst (λ (l : List A). AreGathered key sorted l) (sym ok.1) p.1, ((p.0.absent, ap (λ (l : List A). with_all key l sorted) ok.1 ∙ p.0.same), tt))
  after_late (Ok false) x sorted late late' at old place lt ok err = (
    subst (λ (l : List A). AreGathered key sorted l) (sym ok.1) old,
    ((has-with_all (key x) late sorted ∙ ap (λ t. t || has_key key (key x) sorted) ok.0, ap (λ (l : List A). with_all key l sorted) ok.1), tt),
  )
  after_late (Err e) x sorted late late' at old place lt ok err = (subst (λ (l : List A). AreGathered key sorted l) (sym err) old, (tt, ap (λ (l : List A). with_all key l sorted) err))

is_eq-back : (a b : Text) → is_eq (slice_cmp nat_cmp a b) ≡ same_name b a
is_eq-back a b = sym (ap is_eq (nat_list_cmp_total.antisymm b a) ∙ turned (slice_cmp nat_cmp a b))
  where
    turned : (o : Ordering) → is_eq (ordering_reverse o) ≡ is_eq o
    turned Less = refl
    turned Equal = refl
    turned Greater = refl

-- the keys that a set has

module _ {Y : Type 0} where
  abbrev asked : Text → Vec ℕ Y → Bool
  asked wanted k = is_eq (slice_cmp nat_cmp wanted k.items)

  abbrev by_items : Vec ℕ Y → Vec ℕ Y → Ordering
  by_items a b = slice_cmp nat_cmp a.items b.items

  asked-same : (wanted : Text) (a b : Vec ℕ Y) → by_items a b ≡ Equal → asked wanted a ≡ asked wanted b
  asked-same wanted a b e = ap (λ (k : Text). is_eq (slice_cmp nat_cmp wanted k)) (same_name-is a.items b.items (ap is_eq e))

  any-insert_key : (wanted : Text) (keys : List (Vec ℕ Y)) (k : Vec ℕ Y) → list_any (asked wanted) (insert_key by_items keys k) ≡ (asked wanted k || list_any (asked wanted) keys)
  any-insert_key wanted [] k = refl
  any-insert_key wanted (x ∷ keys) k = at (by_items k x) (any-insert_key wanted keys k) refl
    where
      at : (o : Ordering) → list_any (asked wanted) (insert_key by_items keys k) ≡ (asked wanted k || list_any (asked wanted) keys) → by_items k x ≡ o
          → list_any (asked wanted) (match_ordering (by_items k x) (k ∷ x ∷ keys) (x ∷ keys) (x ∷ insert_key by_items keys k)) ≡ (asked wanted k || (asked wanted x || list_any (asked wanted) keys))
      at Less more e = ap (λ (o : Ordering). list_any (asked wanted) (match_ordering o (k ∷ x ∷ keys) (x ∷ keys) (x ∷ insert_key by_items keys k))) e
      at Equal more e = ap (λ (o : Ordering). list_any (asked wanted) (match_ordering o (k ∷ x ∷ keys) (x ∷ keys) (x ∷ insert_key by_items keys k))) e
          ∙ or_twice (asked wanted k) (asked wanted x) (list_any (asked wanted) keys) (asked-same wanted k x e)
      at Greater more e = ap (λ (o : Ordering). list_any (asked wanted) (match_ordering o (k ∷ x ∷ keys) (x ∷ keys) (x ∷ insert_key by_items keys k))) e
          ∙ ap (λ t. asked wanted x || t) more ∙ or_comm (asked wanted x) (asked wanted k) (list_any (asked wanted) keys)

  -- the keys of some elements with one more are those with its key
  pub key_set-more : {A : Type 0} (key : A → Text) (items : List A) (keys keys' : List (Vec ℕ Y)) (x : A) (k : Vec ℕ Y) → IsKeySet key items keys → k.items ≡ key x → keys' ≡ insert_key by_items keys k
      → IsKeySet key (items ++ x ∷ []) keys'
  key_set-more key items keys keys' x k old is after wanted =
      ap (list_any (asked wanted)) after ∙ any-insert_key wanted keys k ∙ ap (λ t. asked wanted k || t) (old wanted)
      ∙ ap (λ t. t || has_key key wanted items) (ap (λ (n : Text). is_eq (slice_cmp nat_cmp wanted n)) is ∙ is_eq-back wanted (key x))
      ∙ sym (has-append key wanted items x)
