-- Sets of places, and the entries at them.
use Rattle.std.proofs.Common.{◌≡◌, ◌≢◌, ℕ, zero, suc, ◌+◌, ◌<◌, ◌≤◌, ◌==◌, ◌&&◌, ◌||◌, Bool, true, false, cond, List, [], ◌∷◌, ◌++◌, length, get_or, take, drop, filter, refl, sym, ap, subst, ◌∙◌, arith, append_assoc, append-nil, ltb, leb, rules, inl, inr}
use Rattle.std.specs.Ordering.{nat_cmp, is_eq}
use Rattle.std.specs.declared.cmp.Ordering.TheVariants.{Less, Equal, Greater}
use Rattle.std.specs.BTreeMap.{is_at}
use Rattle.std.specs.List.{AllByRecursion}
use Rattle.std.specs.List.Sorted.{IsStrictlySortedBy}
use Rattle.std.proofs.Math.Seq.{drop-cons}
use Rattle.std.proofs.lemmas.Bool.{cases_Bool, cases_lt, true≢false}
use Rattle.std.proofs.lemmas.Bool.Decides.{nat_tests}
use Rattle.std.proofs.lemmas.List.{drop_all}
use Rattle.tl_index.specs.declared.hit.Hit.{Hit}
use Rattle.tl_index.specs.Fronts.{is_within}
use Rattle.tl_index.specs.Places.{has_place, AreSet}
use Rattle.tl_index.specs.Select.{at_places}
use Rattle.tl_index.proofs.FrontLemmas.{Stands, Below, Same, Above, stands, same_cmp}

within_none : (low i : ℕ) → is_within low low i ≡ false
within_none low i = grind (arith, nat_tests)

within_more : (low n i : ℕ) → low ≤ n → is_within low (n + 1) i ≡ (i == n || is_within low n i)
within_more low n i le = grind (arith, nat_tests)

cond_or : (a b positive old : Bool) → cond a positive (cond b positive old) ≡ cond (a || b) positive old
cond_or true b positive old = refl
cond_or false b positive old = refl

pub set_none : (low : ℕ) (positive : Bool) (old : List ℕ) → AreSet low low positive old old
set_none low positive old i = sym (ap (λ t. cond t positive (has_place old i)) (within_none low i))

pub set_more : (low n : ℕ) (positive : Bool) (old mid new : List ℕ) → low ≤ n → AreSet low n positive old mid → ((i : ℕ) → has_place new i ≡ cond (i == n) positive (has_place mid i)) → AreSet low (n + 1) positive old new
set_more low n positive old mid new le set here i =
    here i ∙ ap (cond (i == n) positive) (set i) ∙ cond_or (i == n) (is_within low n i) positive (has_place old i)
    ∙ sym (ap (λ t. cond t positive (has_place old i)) (within_more low n i le))

-- ---- the entries at the places of a set

at_self : (k : ℕ) (ks : List ℕ) → has_place (k ∷ ks) k ≡ true
at_self k ks = ap (λ o. is_eq o || has_place ks k) (same_cmp k)

at_other : (k i : ℕ) (ks : List ℕ) → i ≢ k → has_place (k ∷ ks) i ≡ has_place ks i
at_other k i ks other = elim (stands i k) [
  | Below e h ↦ ap (λ o. is_eq o || has_place ks i) e
  | Same e h ↦ absurd (other h)
  | Above e h ↦ ap (λ o. is_eq o || has_place ks i) e
]

above_not : (n : ℕ) (ks : List ℕ) → AllByRecursion (λ k. n < k) ks → has_place ks n ≡ false
above_not n [] all = refl
above_not n (k ∷ ks) all = at_other k n ks (λ same. absurd (omega (arith, all.0, same))) ∙ above_not n ks all.1

above_more : (n : ℕ) (ks : List ℕ) → AllByRecursion (λ k. n ≤ k) ks → has_place ks n ≡ false → AllByRecursion (λ k. suc n ≤ k) ks
above_more n [] all none = tt
above_more n (k ∷ ks) all none = elim (cases_lt n k) [
  | inl lt ↦ (omega (arith, lt), above_more n ks all.1 (sym (at_other k n ks (λ same. absurd (omega (arith, lt, same)))) ∙ none))
  | inr le ↦
      let same : k ≡ n = omega (arith, all.0, le) in
      absurd (true≢false (sym (subst (λ (j : ℕ). has_place (k ∷ ks) j ≡ true) same (at_self k ks)) ∙ none))
]

less_all : (k : ℕ) (ks : List ℕ) → AllByRecursion (λ y. nat_cmp k y ≡ Less) ks → AllByRecursion (λ y. k < y) ks
less_all k [] all = tt
less_all k (y ∷ ks) all = (by (stands k y) all.0, less_all k ks all.1)
  where
    by : Stands k y → nat_cmp k y ≡ Less → k < y
    by (Below e h) is = h
    by (Same e h) is = absurd (cc)
    by (Above e h) is = absurd (cc)

weaker_all : (k n : ℕ) (ks : List ℕ) → k ≡ n → AllByRecursion (λ y. k < y) ks → AllByRecursion (λ y. suc n ≤ y) ks
weaker_all k n [] same all = tt
weaker_all k n (y ∷ ks) same all = (omega (arith, all.0, same), weaker_all k n ks same all.1)

module _ (w : List Hit) (test : Hit → Bool) (d : Hit) where
  go : (m n : ℕ) (keys : List ℕ) → length w ≡ n + m → IsStrictlySortedBy nat_cmp keys → AllByRecursion (λ k. n ≤ k) keys
      → ((i : ℕ) → n ≤ i → i < length w → has_place keys i ≡ test (get_or w i d)) → ((i : ℕ) → length w ≤ i → has_place keys i ≡ false) → at_places keys w ≡ filter test (drop n w)
  unfolding IsStrictlySortedBy
  go zero n [] len sorted from each others = sym (ap (filter test) (drop_all n w (omega (arith, len))))
  go zero n (k ∷ ks) len sorted from each others = absurd (true≢false (sym (at_self k ks) ∙ others k (omega (arith, len, from.0))))
  go (suc m) n keys len sorted from each others = elim (cases_Bool (test (get_or w n d))) [
    | inl passes ↦ chosen keys sorted from each others passes (λ ks s f e o. go m (suc n) ks (omega (arith, len)) s f e o)
    | inr fails ↦
        let none : has_place keys n ≡ false = each n (omega arith) (omega (arith, len)) ∙ fails in
        go m (suc n) keys (omega (arith, len)) sorted (above_more n keys from none) (λ i le lt. each i (omega arith) lt) others
        ∙ sym (ap (filter test) (drop-cons w n d (omega (arith, len))) ∙ ap (λ t. cond t (get_or w n d ∷ filter test (drop (suc n) w)) (filter test (drop (suc n) w))) fails)
  ]
    where
      chosen : (keys : List ℕ) → IsStrictlySortedBy nat_cmp keys → AllByRecursion (λ k. n ≤ k) keys
          → ((i : ℕ) → n ≤ i → i < length w → has_place keys i ≡ test (get_or w i d)) → ((i : ℕ) → length w ≤ i → has_place keys i ≡ false) → test (get_or w n d) ≡ true
          → ((ks : List ℕ) → IsStrictlySortedBy nat_cmp ks → AllByRecursion (λ k. suc n ≤ k) ks
          → ((i : ℕ) → suc n ≤ i → i < length w → has_place ks i ≡ test (get_or w i d)) → ((i : ℕ) → length w ≤ i → has_place ks i ≡ false) → at_places ks w ≡ filter test (drop (suc n) w))
          → at_places keys w ≡ filter test (drop n w)
      chosen [] sorted from each others passes more = absurd (true≢false (sym (each n (omega arith) (omega (arith, len)) ∙ passes)))
      chosen (k ∷ ks) sorted from each others passes more =
          let above = less_all k ks sorted.0 in
          let same : k ≡ n = elim (cases_lt n k) [
            | inl lt ↦ absurd (true≢false (sym (each n (omega arith) (omega (arith, len)) ∙ passes) ∙ at_other k n ks (λ e. absurd (omega (arith, lt, e))) ∙ above_not n ks (weaker_below ks lt above)))
            | inr le ↦ omega (arith, le, from.0)
          ] in
          let rest = more ks sorted.1 (weaker_all k n ks same above)
          (λ i le lt. sym (at_other k i ks (λ e. absurd (omega (arith, le, e, same)))) ∙ each i (omega arith) lt)
          (λ i le. sym (at_other k i ks (λ e. absurd (omega (arith, le, e, same, len)))) ∙ others i le) in
          let here = drop-cons w n d (omega (arith, len)) in
          ap (λ j. take 1 (drop j w) ++ at_places ks w) same ∙ ap (λ (l : List Hit). take 1 l ++ at_places ks w) here ∙ ap (λ (l : List Hit). get_or w n d ∷ l) rest
          ∙ sym (ap (filter test) here ∙ ap (λ t. cond t (get_or w n d ∷ filter test (drop (suc n) w)) (filter test (drop (suc n) w))) passes)
        where
          weaker_below : (ys : List ℕ) → n < k → AllByRecursion (λ y. k < y) ys → AllByRecursion (λ y. n < y) ys
          weaker_below [] lt all = tt
          weaker_below (y ∷ ys) lt all = (omega (arith, lt, all.0), weaker_below ys lt all.1)

all_from_zero : (keys : List ℕ) → AllByRecursion (λ k. 0 ≤ k) keys
all_from_zero [] = tt
all_from_zero (k ∷ keys) = (omega arith, all_from_zero keys)

-- where a set has the places of the entries that pass a test, they are these entries
pub at_places_filter : (w : List Hit) (test : Hit → Bool) (keys : List ℕ) → IsStrictlySortedBy nat_cmp keys
    → ((i : ℕ) (d : Hit) → i < length w → has_place keys i ≡ test (get_or w i d)) → ((i : ℕ) → length w ≤ i → has_place keys i ≡ false) → at_places keys w ≡ filter test w
at_places_filter [] test [] sorted each others = refl
at_places_filter [] test (k ∷ keys) sorted each others = absurd (true≢false (sym (at_self k keys) ∙ others k (omega arith)))
at_places_filter (x ∷ xs) test keys sorted each others =
    go (x ∷ xs) test x (length (x ∷ xs)) 0 keys (omega arith) sorted (all_from_zero keys) (λ i le lt. each i x lt) others

-- ---- the walk over a set

-- the entries at some places, and those at the places that are left
pub record AtSoFar (places left : List ℕ) (entries hits : List Hit) : Type 0 where
  pub same : hits ++ at_places left entries ≡ at_places places entries

pub at_none : (places left : List ℕ) (entries : List Hit) → left ≡ places → AtSoFar places left entries []
at_none places left entries is = record { same = ap (λ (l : List ℕ). at_places l entries) is }

one_at : (entries : List Hit) (place : ℕ) (h : Hit) → place < length entries → h ≡ get_or entries place h → take 1 (drop place entries) ≡ h ∷ []
one_at entries place h lt is = ap (take 1) (drop-cons entries place h lt) ∙ ap (λ (e : Hit). e ∷ []) (sym is)

pub at_more : (places left rest : List ℕ) (entries hits : List Hit) (place : ℕ) (h : Hit) → left ≡ place ∷ rest → place < length entries → h ≡ get_or entries place h
    → AtSoFar places left entries hits → AtSoFar places rest entries (hits ++ h ∷ [])
at_more places left rest entries hits place h is lt item so_far = record {
  same = append_assoc hits (h ∷ []) (at_places rest entries) ∙ ap (λ (l : List Hit). hits ++ (l ++ at_places rest entries)) (sym (one_at entries place h lt item))
      ∙ ap (λ (l : List ℕ). hits ++ at_places l entries) (sym is) ∙ so_far.same;
}

pub at_past : (places left rest : List ℕ) (entries hits : List Hit) (place : ℕ) → left ≡ place ∷ rest → length entries ≤ place → AtSoFar places left entries hits → AtSoFar places rest entries hits
at_past places left rest entries hits place is le so_far = record {
  same = ap (λ (l : List Hit). hits ++ (take 1 l ++ at_places rest entries)) (sym (drop_all place entries le)) ∙ ap (λ (l : List ℕ). hits ++ at_places l entries) (sym is) ∙ so_far.same;
}

pub at_all : (places left : List ℕ) (entries hits : List Hit) → left ≡ [] → AtSoFar places left entries hits → hits ≡ at_places places entries
at_all places left entries hits none so_far = sym (append-nil hits) ∙ ap (λ (l : List ℕ). hits ++ at_places l entries) (sym none) ∙ so_far.same
