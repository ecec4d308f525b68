-- Texts that begin with another, in the order of bytes.
use Rattle.std.proofs.Common.{◌≡◌, ℕ, zero, suc, ◌+◌, ◌-◌, ◌<◌, ◌≤◌, ◌==◌, ◌&&◌, Bool, true, false, cond, not, List, [], ◌∷◌, ◌++◌, length, get_or, take, drop, filter, refl, sym, ap, subst, ◌∙◌, arith, inl, inr, append_assoc, append-nil, add-one, nat_eq, slice_get, leb, ltb, lt-ltb, le-leb, rules, length-drop, position, unwrap_or, Option, Some, None, ◌⊎◌}
use Rattle.std.specs.Cmp.{ranked}
use Rattle.std.specs.Ordering.{nat_cmp, is_lt, is_eq, ordering_then}
use Rattle.std.specs.declared.cmp.Ordering.{Ordering}
use Rattle.std.specs.declared.cmp.Ordering.TheVariants.{Less, Equal, Greater}
use Rattle.std.specs.Cmp.Lexicographic.{slice_cmp, pointwise}
use Rattle.std.specs.List.{starts_with, AllWithin}
use Rattle.std.specs.List.Sorted.{IsPartitionedBy, IsPartitionPoint}
use Rattle.std.proofs.lemmas.Bool.{cases_Bool, cases_lt, le-ltb, lt-leb, true≢false, and_parts, and_from, ne_eqb}
use Rattle.std.proofs.lemmas.Bool.Decides.{nat_tests}
use Rattle.std.proofs.lemmas.List.{take_all, take_more, drop_all, get_or-drop, get_or_default}
use Rattle.std.proofs.Math.Seq.{drop-cons}
use Rattle.std.proofs.lemmas.Option.{none-some, same_Some, slice_get-get_or}
use Rattle.tl_path.specs.Components.{is_below}
use Rattle.tl_path.proofs.Front.{is_below-begins}
use Rattle.tl_entry.specs.Rising.{comes_before, is_rising, is_rising_after}
use Rattle.tl_entry.proofs.RisingLemmas.{below_all, before_trans, before_not}
use Rattle.tl_index.specs.declared.hit.Hit.{Hit}
use Rattle.tl_index.specs.Entries.{path_of}
use Rattle.tl_index.specs.Fronts.{begins, is_within, IsStretch, IsFirstFrom, IsFrontPart, plain_front}
use Rattle.tl_pattern.specs.Form.{is_wild}

pub starts_as : (front text : List ℕ) → starts_with nat_eq text front ≡ begins front text
starts_as [] text = refl
starts_as (f ∷ front) [] = refl
starts_as (f ∷ front) (b ∷ text) = ap (λ t. nat_eq f b && t) (starts_as front text)

pub begins_append : (front rest : List ℕ) → begins front (front ++ rest) ≡ true
begins_append [] rest = refl
begins_append (f ∷ front) rest = and_from _ _ (search (rules, nat_tests)) (begins_append front rest)

pub begins_is : (front text : List ℕ) → begins front text ≡ true → text ≡ front ++ drop (length front) text
begins_is [] text is = refl
begins_is (f ∷ front) [] is = absurd (true≢false (sym is))
begins_is (f ∷ front) (b ∷ text) is =
    let parts = and_parts (f == b) (begins front text) is in
    let same : b ≡ f = grind (arith, nat_tests, parts.0) in
    let rest = begins_is front text parts.1 in
    ap (λ x. x ∷ text) same ∙ ap (λ (t : List ℕ). f ∷ t) rest

-- a text doesn't come before its own front
pub not_before_front : (front text : List ℕ) → begins front text ≡ true → comes_before text front ≡ false
not_before_front [] [] is = refl
not_before_front [] (b ∷ text) is = refl
not_before_front (f ∷ front) [] is = absurd (true≢false (sym is))
not_before_front (f ∷ front) (b ∷ text) is =
    let parts = and_parts (f == b) (begins front text) is in
    let same : nat_cmp b f ≡ Equal = grind (arith, nat_tests, parts.0) in
    ap (λ o. is_lt (ordering_then o (slice_cmp nat_cmp text front))) same ∙ not_before_front front text parts.1

-- how two numbers stand
pub data Stands (x y : ℕ) : Type 0 where
  Below : nat_cmp x y ≡ Less → x < y → Stands x y
  Same : nat_cmp x y ≡ Equal → x ≡ y → Stands x y
  Above : nat_cmp x y ≡ Greater → y < x → Stands x y

pub stands : (x y : ℕ) → Stands x y
stands x y = by (nat_cmp x y) refl
  where
    by : (o : Ordering) → nat_cmp x y ≡ o → Stands x y
    by Less e = Below e (ranked x y Less (sym e))
    by Equal e = Same e (ranked x y Equal (sym e))
    by Greater e = Above e (ranked x y Greater (sym e))

pub below_cmp : (x y : ℕ) → x < y → nat_cmp x y ≡ Less
below_cmp x y lt = elim (stands x y) [ Below e h ↦ e | Same e h ↦ absurd (omega arith) | Above e h ↦ absurd (omega arith) ]

pub same_cmp : (x : ℕ) → nat_cmp x x ≡ Equal
same_cmp x = elim (stands x x) [ Below e h ↦ absurd (omega arith) | Same e h ↦ e | Above e h ↦ absurd (omega arith) ]

-- what stands between a front and a text that begins with it begins with it too
pub between : (front a b : List ℕ) → comes_before a front ≡ false → comes_before b a ≡ false → begins front b ≡ true → begins front a ≡ true
between [] a b from upto is = refl
between (f ∷ front) [] b from upto is = absurd (true≢false from)
between (f ∷ front) (x ∷ a) [] from upto is = absurd (true≢false (sym is))
between (f ∷ front) (x ∷ a) (y ∷ b) from upto is =
    let parts = and_parts (f == y) (begins front b) is in
    let same_y : f ≡ y = grind (arith, nat_tests, parts.0) in
    elim (stands x f) [
      | Below e h ↦ absurd (true≢false (sym (ap (λ o. is_lt (ordering_then o (slice_cmp nat_cmp a front))) e) ∙ from))
      | Same e h ↦
          let back : nat_cmp y x ≡ Equal = subst (λ (z : ℕ). nat_cmp z x ≡ Equal) (h ∙ same_y) (same_cmp x) in
          and_from _ _ (grind (arith, nat_tests, h)) (between front a b
          (sym (ap (λ o. is_lt (ordering_then o (slice_cmp nat_cmp a front))) e) ∙ from)
          (sym (ap (λ o. is_lt (ordering_then o (slice_cmp nat_cmp b a))) back) ∙ upto) parts.1)
      | Above e h ↦ absurd (true≢false (sym (ap (λ o. is_lt (ordering_then o (slice_cmp nat_cmp b a))) (below_cmp y x (omega (arith, h, same_y)))) ∙ upto))
    ]

-- ---- rising lists

tail_up : (x : Hit) (xs : List Hit) → is_rising_after path_of x xs ≡ true → is_rising path_of xs ≡ true
tail_up x [] e = refl
tail_up x (y ∷ ys) e = (and_parts _ _ e).1

pub rising-drop : (n : ℕ) (xs : List Hit) → is_rising path_of xs ≡ true → is_rising path_of (drop n xs) ≡ true
rising-drop zero xs up = up
rising-drop (suc n) [] up = refl
rising-drop (suc n) (x ∷ xs) up = rising-drop n xs (tail_up x xs up)

-- of two entries of a rising list the later one doesn't come first
pub in_order : (xs : List Hit) (i j : ℕ) (d : Hit) → is_rising path_of xs ≡ true → i ≤ j → j < length xs → comes_before (get_or xs j d).path (get_or xs i d).path ≡ false
in_order xs i j d up le lt = elim (cases_Bool (comes_before (get_or xs j d).path (get_or xs i d).path)) [
  | inl before ↦ absurd (true≢false (sym (below_all path_of (get_or xs i d).path xs j d up lt before i le) ∙ itself (get_or xs i d).path))
  | inr none ↦ none
]
  where
    itself : (t : List ℕ) → comes_before t t ≡ false
    itself [] = refl
    itself (b ∷ t) = ap (λ o. is_lt (ordering_then o (slice_cmp nat_cmp t t))) (same_cmp b) ∙ itself t

from_point : (p : Hit → Bool) (xs : List Hit) (at : ℕ) → IsPartitionPoint (λ y. p y ≡ true) (λ y. p y ≡ false) xs at
    → (i : ℕ) (d : Hit) → i < length xs → p (get_or xs i d) ≡ ltb i at
from_point p xs at point i d lt = elim (cases_lt i at) [
  | inl low ↦ point.0 i d (omega arith) low ∙ sym (lt-ltb i at low)
  | inr high ↦ point.1 i d high lt ∙ sym (le-ltb i at high)
]

pub before_point : (text : List ℕ) (hits : List Hit) → is_rising path_of hits ≡ true → IsPartitionedBy (λ (h : Hit). comes_before h.path text) hits
before_point text hits up i j d le lt is = below_all path_of text hits j d up lt is i le

pub first_from_point : (text : List ℕ) (hits : List Hit) (at : ℕ) → at ≤ length hits
    → IsPartitionPoint (λ (h : Hit). comes_before h.path text ≡ true) (λ (h : Hit). comes_before h.path text ≡ false) hits at → IsFirstFrom text hits at
first_from_point text hits at within point = record { within = within; same = from_point (λ (h : Hit). comes_before h.path text) hits at point }

pub front_point : (front : List ℕ) (hits : List Hit) → is_rising path_of hits ≡ true → IsFirstFrom front hits 0 → IsPartitionedBy (λ (h : Hit). begins front h.path) hits
front_point front hits up from i j d le lt is =
    between front (get_or hits i d).path (get_or hits j d).path (from.same i d (omega arith) ∙ le-ltb i 0 (omega arith)) (in_order hits i j d up le lt) is

pub front_part_point : (front : List ℕ) (hits : List Hit) (at : ℕ) → at ≤ length hits
    → IsPartitionPoint (λ (h : Hit). begins front h.path ≡ true) (λ (h : Hit). begins front h.path ≡ false) hits at → IsFrontPart front hits at
front_part_point front hits at within point = record { within = within; same = from_point (λ (h : Hit). begins front h.path) hits at point }

-- behind the entries that come before a text none does
pub behind_first : (text : List ℕ) (hits : List Hit) (at : ℕ) → IsFirstFrom text hits at → IsFirstFrom text (drop at hits) 0
behind_first text hits at first = record {
  within = omega arith;
  same = λ i d lt.
      let in_hits : at + i < length hits = omega (arith, length-drop at hits, lt, first.within) in
      subst (λ (h : Hit). comes_before h.path text ≡ ltb i 0) (sym (get_or-drop at hits i d))
      (first.same (at + i) d in_hits ∙ le-ltb (at + i) at (omega arith) ∙ sym (le-ltb i 0 (omega arith)));
}

pub stretch_of : (front : List ℕ) (hits : List Hit) (low count : ℕ) → IsFirstFrom front hits low → IsFrontPart front (drop low hits) count → IsStretch front hits low (low + count)
stretch_of front hits low count first part = record {
  order = omega arith;
  within = omega (arith, part.within, first.within, length-drop low hits);
  same = λ i d lt. elim (cases_lt i low) [
    | inl less ↦ before i d lt less ∙ sym (ap (λ t. t && ltb i (low + count)) (lt-leb low i less))
    | inr le ↦
        let (j, is) : (j : ℕ) × (i ≡ low + j) = (i - low, omega (arith, le)) in
        let lt_j : j < length (drop low hits) = omega (arith, length-drop low hits, lt, is, first.within) in
        subst (λ (h : Hit). begins front h.path ≡ is_within low (low + count) i) (get_or-drop low hits j d ∙ ap (λ k. get_or hits k d) (sym is))
        (part.same j d lt_j ∙ shifted j ∙ ap (is_within low (low + count)) (sym is))
  ];
}
  where
    shifted : (j : ℕ) → ltb j count ≡ is_within low (low + count) (low + j)
    shifted j = elim (cases_lt j count) [
      | inl less ↦ lt-ltb j count less ∙ sym (and_from _ _ (le-leb low (low + j) (omega arith)) (lt-ltb (low + j) (low + count) (omega arith)))
      | inr le ↦ le-ltb j count le ∙ sym (ap (λ t. t && ltb (low + j) (low + count)) (le-leb low (low + j) (omega arith)) ∙ le-ltb (low + j) (low + count) (omega arith))
    ]

    before : (i : ℕ) (d : Hit) → i < length hits → i < low → begins front (get_or hits i d).path ≡ false
    before i d lt less = elim (cases_Bool (begins front (get_or hits i d).path)) [
      | inl is ↦ absurd (true≢false (sym (lt-ltb i low less) ∙ sym (first.same i d lt) ∙ not_before_front front _ is))
      | inr none ↦ none
    ]

-- ---- a stretch of a list

abbrev no_hits : List Hit
no_hits = []

take_none : (n : ℕ) → take n no_hits ≡ no_hits
take_none zero = refl
take_none (suc n) = refl

within_suc : (low n i : ℕ) → is_within (suc low) (suc low + n) (suc i) ≡ is_within low (low + n) i
within_suc low n i = grind (arith, nat_tests)

from_zero : (n i : ℕ) → is_within 0 (0 + suc n) (suc i) ≡ is_within 0 (0 + n) i
from_zero n i = grind (arith, nat_tests)

never : (i : ℕ) → is_within 0 (0 + 0) i ≡ false
never i = grind (arith, nat_tests)

pub filter_part : (p : Hit → Bool) (xs : List Hit) (low n : ℕ) → ((i : ℕ) (d : Hit) → i < length xs → p (get_or xs i d) ≡ is_within low (low + n) i)
    → filter p xs ≡ take n (drop low xs)
filter_part p [] zero n is = sym (take_none n)
filter_part p [] (suc low) n is = sym (take_none n)
filter_part p (x ∷ xs) zero zero is =
    ap (λ t. cond t (x ∷ filter p xs) (filter p xs)) (is 0 x (omega arith) ∙ never 0)
    ∙ filter_part p xs 0 0 (λ i d lt. is (suc i) d (omega arith) ∙ never (suc i) ∙ sym (never i))
filter_part p (x ∷ xs) zero (suc n) is =
    ap (λ t. cond t (x ∷ filter p xs) (filter p xs)) (is 0 x (omega arith) ∙ and_from _ _ (le-leb 0 0 (omega arith)) (lt-ltb 0 (0 + suc n) (omega arith)))
    ∙ ap (λ (l : List Hit). x ∷ l) (filter_part p xs 0 n (λ i d lt. is (suc i) d (omega arith) ∙ from_zero n i))
filter_part p (x ∷ xs) (suc low) n is =
    ap (λ t. cond t (x ∷ filter p xs) (filter p xs)) (is 0 x (omega arith) ∙ ap (λ t. t && ltb 0 (suc low + n)) (lt-leb (suc low) 0 (omega arith)))
    ∙ filter_part p xs low n (λ i d lt. is (suc i) d (omega arith) ∙ within_suc low n i)

pub filter_stretch : (p : Hit → Bool) (xs : List Hit) (low high : ℕ) → low ≤ high → ((i : ℕ) (d : Hit) → i < length xs → p (get_or xs i d) ≡ is_within low high i)
    → filter p xs ≡ take (high - low) (drop low xs)
filter_stretch p xs low high le is =
    let same : high ≡ low + (high - low) = omega (arith, le) in
    filter_part p xs low (high - low) (λ i d lt. is i d lt ∙ ap (λ h. is_within low h i) same)

-- ---- below a folder

flip_slash : (b : ℕ) → (b == 47) ≡ ((47 == b) && true)
flip_slash b = grind (arith, nat_tests)

pub below_begins : (dir path : List ℕ) → is_below path dir ≡ begins (dir ++ 47 ∷ []) path
below_begins [] [] = is_below-begins [] []
below_begins [] (b ∷ path) = is_below-begins [] (b ∷ path) ∙ flip_slash b
below_begins (d ∷ dir) [] = is_below-begins (d ∷ dir) []
below_begins (d ∷ dir) (b ∷ path) = is_below-begins (d ∷ dir) (b ∷ path) ∙ ap (λ t. nat_eq d b && t) (sym (is_below-begins dir path) ∙ below_begins dir path)

-- ---- the front of a glob

-- a walk over the first bytes of a glob, none of which stands for others
pub record PlainSoFar (glob : List ℕ) (at : ℕ) : Type 0 where
  pub same : plain_front glob ≡ take at glob ++ plain_front (drop at glob)

pub plain_none : (glob : List ℕ) → PlainSoFar glob 0
plain_none glob = record { same = refl }

pub plain_more : (glob : List ℕ) (at : ℕ) → at < length glob → is_wild (get_or glob at 0) ≡ false → PlainSoFar glob at → PlainSoFar glob (at + 1)
plain_more glob at lt plain so_far = record {
  same =
      let b = get_or glob at 0 in
      so_far.same ∙ ap (λ (t : List ℕ). take at glob ++ plain_front t) (rest glob at lt)
      ∙ ap (λ t. take at glob ++ cond t [] (b ∷ plain_front (drop (at + 1) glob))) plain
      ∙ sym (append_assoc (take at glob) (b ∷ []) (plain_front (drop (at + 1) glob)))
      ∙ ap (λ (t : List ℕ). t ++ plain_front (drop (at + 1) glob)) (sym (take_more glob at 0 lt));
}
  where
    rest : (xs : List ℕ) (k : ℕ) → k < length xs → drop k xs ≡ get_or xs k 0 ∷ drop (k + 1) xs
    rest xs k less = rw add-one (drop-cons xs k 0 less)

pub plain_ended : (glob : List ℕ) (at : ℕ) → at < length glob → is_wild (get_or glob at 0) ≡ true → PlainSoFar glob at → take at glob ≡ plain_front glob
plain_ended glob at lt wild so_far = sym (so_far.same ∙ ap (λ (t : List ℕ). take at glob ++ plain_front t) (drop-cons glob at 0 lt)
    ∙ ap (λ t. take at glob ++ cond t [] (get_or glob at 0 ∷ plain_front (drop (suc at) glob))) wild ∙ append-nil (take at glob))

pub plain_all : (glob : List ℕ) (at : ℕ) → length glob ≤ at → PlainSoFar glob at → glob ≡ plain_front glob
plain_all glob at all so_far = sym (so_far.same ∙ ap (λ (t : List ℕ). take at glob ++ plain_front t) (drop_all at glob all) ∙ append-nil (take at glob) ∙ take_all at glob all)

-- ---- two tests

pub filter_both : (p q : Hit → Bool) (xs : List Hit) → filter (λ (h : Hit). p h && q h) xs ≡ filter q (filter p xs)
filter_both p q [] = refl
filter_both p q (x ∷ xs) = by (p x) (q x) refl (filter_both p q xs)
  where
    by : (a b : Bool) → q x ≡ b → filter (λ (h : Hit). p h && q h) xs ≡ filter q (filter p xs)
        → cond (a && q x) (x ∷ filter (λ (h : Hit). p h && q h) xs) (filter (λ (h : Hit). p h && q h) xs) ≡ filter q (cond a (x ∷ filter p xs) (filter p xs))
    by true true is more = ap (λ t. cond t (x ∷ filter (λ (h : Hit). p h && q h) xs) (filter (λ (h : Hit). p h && q h) xs)) is ∙ ap (λ (l : List Hit). x ∷ l) more
        ∙ sym (ap (λ t. cond t (x ∷ filter q (filter p xs)) (filter q (filter p xs))) is)
    by true false is more = ap (λ t. cond t (x ∷ filter (λ (h : Hit). p h && q h) xs) (filter (λ (h : Hit). p h && q h) xs)) is ∙ more
        ∙ sym (ap (λ t. cond t (x ∷ filter q (filter p xs)) (filter q (filter p xs))) is)
    by false b is more = more

pub filter_same : (p q : Hit → Bool) → ((h : Hit) → p h ≡ q h) → (xs : List Hit) → filter p xs ≡ filter q xs
filter_same p q same [] = refl
filter_same p q same (x ∷ xs) = ap (λ t. cond t (x ∷ filter p xs) (filter p xs)) (same x) ∙ ap (λ (l : List Hit). cond (q x) (x ∷ l) l) (filter_same p q same xs)

-- the entries below a folder are those of its stretch
pub below_stretch : (dir : List ℕ) (hits : List Hit) (low high : ℕ) → IsStretch (dir ++ 47 ∷ []) hits low high → filter (λ (h : Hit). is_below h.path dir) hits ≡ take (high - low) (drop low hits)
below_stretch dir hits low high stretch =
    filter_stretch (λ (h : Hit). is_below h.path dir) hits low high stretch.order (λ i d lt. below_begins dir (get_or hits i d).path ∙ stretch.same i d lt)

-- ---- a path behind all others

pub all_before : (text : List ℕ) (hits : List Hit) (d : Hit) → is_rising path_of hits ≡ true → 0 < length hits → comes_before (get_or hits (length hits - 1) d).path text ≡ true → IsFirstFrom text hits (length hits)
all_before text hits d up some last = record {
  within = omega arith;
  same = λ i e lt.
      let here : comes_before (get_or hits (length hits - 1) e).path text ≡ true =
      subst (λ (h : Hit). comes_before h.path text ≡ true) (get_or_default hits (length hits - 1) d e (omega (arith, some))) last in
      below_all path_of text hits (length hits - 1) e up (omega (arith, some)) here i (omega (arith, lt)) ∙ sym (lt-ltb i (length hits) lt);
}

pub none_first : (text : List ℕ) (hits : List Hit) → None ≡ slice_get hits (length hits - 1) → IsFirstFrom text hits 0
none_first text [] none = record { within = omega arith; same = λ i e lt. absurd (omega arith) }
none_first text (h ∷ hits) none = absurd (none-some _ (none ∙ slice_get-get_or (h ∷ hits) (length (h ∷ hits) - 1) h (omega arith)))

pub last_before : (text : List ℕ) (hits : List Hit) (h : Hit) → Some h ≡ slice_get hits (length hits - 1) → is_rising path_of hits ≡ true → comes_before h.path text ≡ true → IsFirstFrom text hits (length hits)
last_before text [] h is up before = absurd (none-some _ (sym is))
last_before text (x ∷ hits) h is up before =
    let last : h ≡ get_or (x ∷ hits) (length (x ∷ hits) - 1) h = same_Some _ _ (is ∙ slice_get-get_or (x ∷ hits) (length (x ∷ hits) - 1) h (omega arith)) in
    all_before text (x ∷ hits) h up (omega arith) (subst (λ (e : Hit). comes_before e.path text ≡ true) last before)

pub none_before : (text : List ℕ) (hits : List Hit) → length hits ≡ 0 → IsFirstFrom text hits (length hits)
none_before text hits none = record { within = omega arith; same = λ i e lt. absurd (omega (arith, lt, none)) }
