-- A path's place among entries, and entries with it and without it.
use Rattle.std.proofs.Common.{◌≡◌, ℕ, zero, suc, ◌+◌, ◌<◌, ◌≤◌, ◌&&◌, ◌||◌, Bool, true, false, cond, not, List, [], ◌∷◌, ◌++◌, length, get_or, take, drop, set, map, filter, refl, sym, ap, subst, ◌∙◌, arith, Option, Some, None, lt-ltb, bytes_eq, inl, inr}
use Rattle.std.specs.Ordering.{nat_cmp, is_lt, is_eq, ordering_reverse, match_ordering}
use Rattle.std.specs.declared.cmp.Ordering.{Ordering}
use Rattle.std.specs.declared.cmp.Ordering.TheVariants.{Less, Equal, Greater}
use Rattle.std.specs.Cmp.{tied_itself}
use Rattle.std.specs.Cmp.Lexicographic.{slice_cmp, nat_list_cmp_total}
use Rattle.std.specs.BTreeSet.{replace_key}
use Rattle.std.specs.List.{AllByRecursion, insert, remove, list_any}
use Rattle.std.proofs.lemmas.Bool.{cases_Bool, cases_lt, true≢false, and_parts, and_from, le-ltb}
use Rattle.std.proofs.lemmas.List.{get_or_default}
use Rattle.std.proofs.lemmas.Slice.Eq.{bytes_eq-Decides}
use Rattle.tl_model.specs.Volume.{same_name, same_name-is, same_name-refl, same_name-apart}
use Rattle.tl_entry.specs.Rising.{comes_before, is_rising, is_rising_after, has_key, insert_by, IsPlace}
use Rattle.tl_entry.proofs.RisingLemmas.{above_all, before_trans, before_not, before_apart, before_apart_back, before_other, absent_at, present_at, rising-map, placed, Placed}
use Rattle.tl_index.specs.declared.hit.Hit.{Hit}
use Rattle.tl_index.specs.declared.hit.Leaf.{Leaf}
use Rattle.tl_index.specs.Entries.{path_of, by_path, with_leaf, has, without, leaf_of}
use Rattle.tl_index.specs.Fronts.{IsFirstFrom}

abbrev Text : Type 0
Text = List ℕ

less_is : (a b : Text) → comes_before a b ≡ true → slice_cmp nat_cmp a b ≡ Less
less_is a b is = by (slice_cmp nat_cmp a b) is
  where
    by : (o : Ordering) → is_lt o ≡ true → o ≡ Less
    by Less e = refl
    by Equal e = absurd (true≢false (sym e))
    by Greater e = absurd (true≢false (sym e))

greater_is : (a b : Text) → comes_before b a ≡ true → slice_cmp nat_cmp a b ≡ Greater
greater_is a b is = nat_list_cmp_total.antisymm a b ∙ ap ordering_reverse (less_is b a is)

pub apart_of : (a b : Text) → bytes_eq a b ≡ false → a ≡ b → ⊥
apart_of a b none is = true≢false (sym ((bytes_eq-Decides a b).1 is) ∙ none)

pub same_of : (a b : Text) → bytes_eq a b ≡ true → a ≡ b
same_of a b is = (bytes_eq-Decides a b).0 is

-- where an entry at a path's place has another path, the path isn't there
pub place_of_absent : (path : Text) (hits : List Hit) (at : ℕ) → is_rising path_of hits ≡ true → IsFirstFrom path hits at
    → ((d : Hit) → at < length hits → (get_or hits at d).path ≡ path → ⊥) → IsPlace path_of path hits at
place_of_absent path hits at up first apart = record {
  within = first.within;
  below = λ k d lt. first.same k d (omega (arith, first.within)) ∙ lt-ltb k at lt;
  above = λ k d le lt.
      let here : comes_before path (get_or hits at d).path ≡ true =
      before_other (get_or hits at d).path path (first.same at d (omega arith) ∙ le-ltb at at (omega arith))
      (same_name-apart path (get_or hits at d).path (λ is. apart d (omega arith) (sym is))) in
      above_all path_of path hits at d up (omega arith) here k le lt;
}

pub has_here : (path : Text) (hits : List Hit) (at : ℕ) (d : Hit) → at < length hits → (get_or hits at d).path ≡ path → has path hits ≡ true
has_here path hits at d lt is = present_at path_of path hits at d lt (subst (λ (t : Text). same_name t path ≡ true) (sym is) (same_name-refl path))

pub has_not : (path : Text) (hits : List Hit) (at : ℕ) → is_rising path_of hits ≡ true → IsFirstFrom path hits at
    → ((d : Hit) → at < length hits → (get_or hits at d).path ≡ path → ⊥) → has path hits ≡ false
has_not path hits at up first apart = absent_at path_of path hits at (place_of_absent path hits at up first apart)

-- ---- with a leaf

pub put_at : (x : Hit) (xs : List Hit) (i : ℕ) → IsPlace path_of x.path xs i → replace_key by_path xs x ≡ insert xs i x
put_at x [] zero place = refl
put_at x [] (suc i) place = absurd (omega (arith, place.within))
put_at x (y ∷ ys) zero place = ap (λ o. match_ordering o (x ∷ y ∷ ys) (x ∷ ys) (y ∷ replace_key by_path ys x)) (less_is x.path y.path (place.above 0 y (omega arith) (omega arith)))
put_at x (y ∷ ys) (suc i) place =
    ap (λ o. match_ordering o (x ∷ y ∷ ys) (x ∷ ys) (y ∷ replace_key by_path ys x)) (greater_is x.path y.path (place.below 0 y (omega arith)))
    ∙ ap (λ (zs : List Hit). y ∷ zs) (put_at x ys i (record { within = omega (arith, place.within); below = λ k d lt. place.below (suc k) d (omega arith); above = λ k d le lt. place.above (suc k) d (omega arith) (omega arith) }))

pub set_at : (x : Hit) (xs : List Hit) (i : ℕ) (d : Hit) → i < length xs → ((k : ℕ) (e : Hit) → k < i → comes_before (get_or xs k e).path x.path ≡ true)
    → (get_or xs i d).path ≡ x.path → replace_key by_path xs x ≡ set xs i x
set_at x [] i d lt below is = absurd (omega arith)
set_at x (y ∷ ys) zero d lt below is =
    ap (λ o. match_ordering o (x ∷ y ∷ ys) (x ∷ ys) (y ∷ replace_key by_path ys x)) (subst (λ (t : Text). slice_cmp nat_cmp x.path t ≡ Equal) (sym is) (tied_itself nat_list_cmp_total x.path))
set_at x (y ∷ ys) (suc i) d lt below is =
    ap (λ o. match_ordering o (x ∷ y ∷ ys) (x ∷ ys) (y ∷ replace_key by_path ys x)) (greater_is x.path y.path (below 0 y (omega arith)))
    ∙ ap (λ (zs : List Hit). y ∷ zs) (set_at x ys i d (omega arith) (λ k e less. below (suc k) e (omega arith)) is)

paths_set : (x : Hit) (xs : List Hit) (i : ℕ) (d : Hit) → i < length xs → (get_or xs i d).path ≡ x.path → map path_of (set xs i x) ≡ map path_of xs
paths_set x [] i d lt is = absurd (omega arith)
paths_set x (y ∷ ys) zero d lt is = ap (λ (t : Text). t ∷ map path_of ys) (sym is)
paths_set x (y ∷ ys) (suc i) d lt is = ap (λ (ts : List Text). y.path ∷ ts) (paths_set x ys i d (omega arith) is)

pub rising_set : (x : Hit) (xs : List Hit) (i : ℕ) (d : Hit) → i < length xs → (get_or xs i d).path ≡ x.path → is_rising path_of xs ≡ true → is_rising path_of (set xs i x) ≡ true
rising_set x xs i d lt is up =
    sym (rising-map path_of (set xs i x)) ∙ ap (is_rising (λ (k : Text). k)) (paths_set x xs i d lt is) ∙ rising-map path_of xs ∙ up

pub all_put : (P : Hit → Type 0) (xs : List Hit) (x : Hit) → AllByRecursion P xs → P x → AllByRecursion P (replace_key by_path xs x)
all_put P [] x all here = (here, tt)
all_put P (y ∷ ys) x all here = by (by_path x y) (all_put P ys x all.1 here)
  where
    by : (o : Ordering) → AllByRecursion P (replace_key by_path ys x) → AllByRecursion P (match_ordering o (x ∷ y ∷ ys) (x ∷ ys) (y ∷ replace_key by_path ys x))
    by Less more = (here, all)
    by Equal more = (here, all.1)
    by Greater more = (all.0, more)

pub all_at : (P : Hit → Type 0) (xs : List Hit) (k : ℕ) (d : Hit) → AllByRecursion P xs → k < length xs → P (get_or xs k d)
all_at P [] k d all lt = absurd (omega arith)
all_at P (x ∷ xs) zero d all lt = all.0
all_at P (x ∷ xs) (suc k) d all lt = all_at P xs k d all.1 (omega arith)

-- ---- without a path

without_absent : (path : Text) (xs : List Hit) → has path xs ≡ false → without path xs ≡ xs
without_absent path [] none = refl
without_absent path (x ∷ xs) none = by (same_name x.path path) refl none (without_absent path xs)
  where
    by : (b : Bool) → same_name x.path path ≡ b → (b || has path xs) ≡ false → (has path xs ≡ false → without path xs ≡ xs) → without path (x ∷ xs) ≡ x ∷ xs
    by true is none more = absurd (true≢false none)
    by false is none more = ap (λ t. cond (not t) (x ∷ without path xs) (without path xs)) is ∙ ap (λ (l : List Hit). x ∷ l) (more none)

pub without_none : (path : Text) (xs : List Hit) → has path xs ≡ false → xs ≡ without path xs
without_none path xs none = sym (without_absent path xs none)

after_all : (x : Hit) (xs : List Hit) (k : ℕ) (d : Hit) → is_rising_after path_of x xs ≡ true → k < length xs → comes_before x.path (get_or xs k d).path ≡ true
after_all x [] k d up lt = absurd (omega arith)
after_all x (y ∷ ys) zero d up lt = (and_parts _ _ up).0
after_all x (y ∷ ys) (suc k) d up lt = before_trans x.path y.path _ (and_parts _ _ up).0 (after_all y ys k d (and_parts _ _ up).1 (omega arith))

tail_up : (x : Hit) (xs : List Hit) → is_rising_after path_of x xs ≡ true → is_rising path_of xs ≡ true
tail_up x [] e = refl
tail_up x (y ∷ ys) e = (and_parts _ _ e).1

pub without_at : (path : Text) (xs : List Hit) (i : ℕ) (d : Hit) → is_rising path_of xs ≡ true → i < length xs
    → ((k : ℕ) (e : Hit) → k < i → comes_before (get_or xs k e).path path ≡ true) → (get_or xs i d).path ≡ path → without path xs ≡ remove xs i
without_at path [] i d up lt below is = absurd (omega arith)
without_at path (x ∷ xs) zero d up lt below is =
    let none : has path xs ≡ false = absent_at path_of path xs 0 (record {
      within = omega arith;
      below = λ k e less. absurd (omega arith);
      above = λ k e le in_range. subst (λ (t : Text). comes_before t (get_or xs k e).path ≡ true) is (after_all x xs k e up in_range);
    }) in
    ap (λ t. cond (not t) (x ∷ without path xs) (without path xs)) (subst (λ (t : Text). same_name t path ≡ true) (sym is) (same_name-refl path)) ∙ without_absent path xs none
without_at path (x ∷ xs) (suc i) d up lt below is =
    ap (λ t. cond (not t) (x ∷ without path xs) (without path xs)) (before_apart x.path path (below 0 x (omega arith)))
    ∙ ap (λ (l : List Hit). x ∷ l) (without_at path xs i d (tail_up x xs up) (omega arith) (λ k e less. below (suc k) e (omega arith)) is)

weaker : (a b : Hit) (xs : List Hit) → comes_before a.path b.path ≡ true → is_rising_after path_of b xs ≡ true → is_rising_after path_of a xs ≡ true
weaker a b [] lt up = refl
weaker a b (x ∷ xs) lt up = and_from _ _ (before_trans a.path b.path x.path lt (and_parts _ _ up).0) (and_parts _ _ up).1

after_filter : (p : Hit → Bool) (a : Hit) (xs : List Hit) → is_rising_after path_of a xs ≡ true → is_rising_after path_of a (filter p xs) ≡ true
after_filter p a [] up = refl
after_filter p a (x ∷ xs) up = by (p x) (after_filter p x xs (and_parts _ _ up).1) (after_filter p a xs (weaker a x xs (and_parts _ _ up).0 (and_parts _ _ up).1))
  where
    by : (b : Bool) → is_rising_after path_of x (filter p xs) ≡ true → is_rising_after path_of a (filter p xs) ≡ true → is_rising_after path_of a (cond b (x ∷ filter p xs) (filter p xs)) ≡ true
    by true here there = and_from _ _ (and_parts _ _ up).0 here
    by false here there = there

pub rising_filter : (p : Hit → Bool) (xs : List Hit) → is_rising path_of xs ≡ true → is_rising path_of (filter p xs) ≡ true
rising_filter p [] up = refl
rising_filter p (x ∷ xs) up = by (p x) (after_filter p x xs up) (rising_filter p xs (tail_up x xs up))
  where
    by : (b : Bool) → is_rising_after path_of x (filter p xs) ≡ true → is_rising path_of (filter p xs) ≡ true → is_rising path_of (cond b (x ∷ filter p xs) (filter p xs)) ≡ true
    by true here there = here
    by false here there = there

pub all_filter : (P : Hit → Type 0) (p : Hit → Bool) (xs : List Hit) → AllByRecursion P xs → AllByRecursion P (filter p xs)
all_filter P p [] all = tt
all_filter P p (x ∷ xs) all = by (p x) (all_filter P p xs all.1)
  where
    by : (b : Bool) → AllByRecursion P (filter p xs) → AllByRecursion P (cond b (x ∷ filter p xs) (filter p xs))
    by true more = (all.0, more)
    by false more = more

-- ---- a path's leaf

pub leaf_here : (path : Text) (xs : List Hit) (i : ℕ) (d : Hit) → i < length xs → ((k : ℕ) (e : Hit) → k < i → comes_before (get_or xs k e).path path ≡ true)
    → (get_or xs i d).path ≡ path → leaf_of path xs ≡ Some (get_or xs i d).leaf
leaf_here path [] i d lt below is = absurd (omega arith)
leaf_here path (x ∷ xs) zero d lt below is = ap (λ t. cond t (Some x.leaf) (leaf_of path xs)) (subst (λ (t : Text). same_name t path ≡ true) (sym is) (same_name-refl path))
leaf_here path (x ∷ xs) (suc i) d lt below is =
    ap (λ t. cond t (Some x.leaf) (leaf_of path xs)) (before_apart x.path path (below 0 x (omega arith)))
    ∙ leaf_here path xs i d (omega arith) (λ k e less. below (suc k) e (omega arith)) is

pub leaf_none : (path : Text) (xs : List Hit) → has path xs ≡ false → leaf_of path xs ≡ None
leaf_none path [] none = refl
leaf_none path (x ∷ xs) none = by (same_name x.path path) refl none (leaf_none path xs)
  where
    by : (b : Bool) → same_name x.path path ≡ b → (b || has path xs) ≡ false → (has path xs ≡ false → leaf_of path xs ≡ None) → leaf_of path (x ∷ xs) ≡ None
    by true is none more = absurd (true≢false none)
    by false is none more = ap (λ t. cond t (Some x.leaf) (leaf_of path xs)) is ∙ more none

pub first_below : (path : Text) (hits : List Hit) (at : ℕ) → IsFirstFrom path hits at → (k : ℕ) (e : Hit) → k < at → comes_before (get_or hits k e).path path ≡ true
first_below path hits at first k e lt = first.same k e (omega (arith, first.within)) ∙ lt-ltb k at lt

-- a path stands at its place
pub record IsHere (path : Text) (hits : List Hit) (at : ℕ) : Type 0 where
  pub inside : at < length hits
  pub is : (d : Hit) → (get_or hits at d).path ≡ path

pub here_of_has : (path : Text) (hits : List Hit) (at : ℕ) → is_rising path_of hits ≡ true → IsFirstFrom path hits at → has path hits ≡ true → IsHere path hits at
here_of_has path hits at up first there = elim (cases_lt at (length hits)) [
  | inl lt ↦ record { inside = lt; is = λ d. here d lt }
  | inr le ↦ absurd (true≢false (sym there ∙ has_not path hits at up first (λ d lt is. absurd (omega (arith, lt, le)))))
]
  where
    here : (d : Hit) → at < length hits → (get_or hits at d).path ≡ path
    here d lt = elim (cases_Bool (bytes_eq (get_or hits at d).path path)) [
      | inl equal ↦ same_of (get_or hits at d).path path equal
      | inr differs ↦ absurd (true≢false (sym there ∙ has_not path hits at up first (λ e less is.
          apart_of (get_or hits at d).path path differs (ap (λ (h : Hit). h.path) (get_or_default hits at d e less) ∙ is))))
    ]

-- whether a path stands at its place is whether it is there
pub there_is : (path : Text) (hits : List Hit) (at : ℕ) (h : Hit) (r : Bool) → is_rising path_of hits ≡ true → IsFirstFrom path hits at → at < length hits → h ≡ get_or hits at h
    → r ≡ bytes_eq h.path path → r ≡ has path hits
there_is path hits at h true up first lt item is = sym (has_here path hits at h lt (ap (λ (e : Hit). e.path) (sym item) ∙ same_of h.path path (sym is)))
there_is path hits at h false up first lt item is = sym (has_not path hits at up first (λ d less here.
    apart_of h.path path (sym is) (ap (λ (e : Hit). e.path) (item ∙ get_or_default hits at h d less) ∙ here)))

pub there_not : (path : Text) (hits : List Hit) (at : ℕ) → is_rising path_of hits ≡ true → IsFirstFrom path hits at → length hits ≤ at → has path hits ≡ false
there_not path hits at up first le = has_not path hits at up first (λ d lt is. absurd (omega (arith, lt, le)))
