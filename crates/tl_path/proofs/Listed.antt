-- Which words are platforms with those before them, and their order once they are sorted.
use Rattle.std.proofs.Common.{◌≡◌, ◌≢◌, ◌⊎◌, ℕ, ◌+◌, ◌<◌, ◌≤◌, Bool, true, false, List, [], ◌∷◌, ◌++◌, length, get_or, swap, IsPermutation, IsSorted, Ordering, Less, Equal, Greater, nat_cmp, is_eq, is_lt, bytes_eq, inl, inr, refl, sym, ap, ◌∙◌, subst, true≢false, arith, length-append}
use Rattle.std.specs.Prelude.{AllPairs, Any, MatchBool, not}
use Rattle.std.specs.List.{list_any}
use Rattle.std.specs.Ordering.{ordering_reverse}
use Rattle.std.specs.Cmp.Lexicographic.{slice_cmp}
use Rattle.std.proofs.lemmas.Bool.{cases_eq}
use Rattle.std.proofs.lemmas.Cmp.{nat_list_cmp_total}
use Rattle.std.proofs.lemmas.List.{get_or_append_left}
use Rattle.std.proofs.lemmas.List.Edits.{Swapped, swapped_from_swap, length-swap}
use Rattle.std.proofs.lemmas.List.Elements.{All-nil, All-push}
use Rattle.std.proofs.lemmas.List.Folds.{Any-from_list_any, list_any_at}
use Rattle.std.proofs.lemmas.List.Quantifiers.{all_pairs_push}
use Rattle.std.proofs.lemmas.List.Sorted.{IsPermutation-keeps, All-permutation, length_permutation}
use Rattle.std.proofs.lemmas.Map.Keys.{sorted_from_all_adjacent, Less-from_sorted}
use Rattle.std.proofs.lemmas.Map.Text.{is_eq-slice_cmp}
use Rattle.std.proofs.lemmas.Slice.Eq.{bytes_eq-Decides}
use Rattle.tl_path.specs.Names.{is_platform}
use Rattle.tl_path.specs.Platforms.{ArePlatforms, ArePlatformsInOrder}

pub none_listed : ArePlatforms []
none_listed = record { each = All-nil (λ word. is_platform word ≡ true); distinct = λ i j d less within. absurd (omega arith); few = omega arith }

pub none_in_order : ArePlatformsInOrder []
none_in_order = record { each = All-nil (λ word. is_platform word ≡ true); rising = λ i j d less within. absurd (omega arith); few = omega arith }

last_at : (names : List (List ℕ)) (word d : List ℕ) → get_or (names ++ word ∷ []) (length names) d ≡ word
last_at [] word d = refl
last_at (name ∷ names) word d = last_at names word d

repeats : (names : List (List ℕ)) (word : List ℕ) (k : ℕ) (d : List ℕ) → k < length names → list_any (λ name. bytes_eq name word) names ≡ false → get_or names k d ≢ word
repeats names word k d within none same =
    true≢false (sym (list_any_at (λ name. bytes_eq name word) names k d within ((bytes_eq-Decides (get_or names k d) word).1 same)) ∙ none)

pub one_more : (names : List (List ℕ)) (word : List ℕ) → ArePlatforms names → length names < 32 → is_platform word ≡ true → list_any (λ name. bytes_eq name word) names ≡ false → ArePlatforms (names ++ word ∷ [])
one_more names word are room form new = record {
  each = All-push (λ name. is_platform name ≡ true) names word are.each form;
  distinct = all_pairs_push (λ a b. a ≢ b) names word are.distinct (λ k d within. repeats names word k d within new);
  few = omega (arith, length-append names (word ∷ []));
}

pub too_many : (names : List (List ℕ)) (word : List ℕ) → 32 ≤ length names → ¬ (ArePlatforms (names ++ word ∷ []))
too_many names word full are = omega (arith, are.few, length-append names (word ∷ []))

pub no_platform : (names : List (List ℕ)) (word : List ℕ) → is_platform word ≡ false → ¬ (ArePlatforms (names ++ word ∷ []))
no_platform names word bad are =
    let last : is_platform (get_or (names ++ word ∷ []) (length names) word) ≡ true = are.each (length names) word (omega (arith, length-append names (word ∷ []))) in
    true≢false (sym last ∙ ap is_platform (last_at names word word) ∙ bad)

pub repeated : (names : List (List ℕ)) (word : List ℕ) → list_any (λ name. bytes_eq name word) names ≡ true → ¬ (ArePlatforms (names ++ word ∷ []))
repeated names word found are =
    let one : Any (λ name. bytes_eq name word ≡ true) names = Any-from_list_any (λ name. bytes_eq name word) names found in
    let same : one.1 ≡ word = (bytes_eq-Decides one.1 word).0 one.4 in
    are.distinct one.0 (length names) one.1 one.2 (omega (arith, length-append names (word ∷ [])))
    (get_or_append_left names (word ∷ []) one.1 one.0 one.2 ∙ one.3 ∙ same ∙ sym (last_at names word one.1))

-- another order

abbrev AreDistinct : List (List ℕ) → Type 0
AreDistinct words = AllPairs (λ a b. a ≢ b) words

either_way : (ks : List (List ℕ)) → AreDistinct ks → (i j : ℕ) (d : List ℕ) → i < length ks → j < length ks → get_or ks i d ≡ get_or ks j d → i ≡ j
either_way ks h i j d p q e =
    let not_below : i < j → ⊥ = λ less. h i j d less q e in
    let not_above : j < i → ⊥ = λ less. h j i d less p (sym e) in
    omega arith

-- where a swap of a and b took the element at m from
abbrev From : ℕ → ℕ → ℕ → ℕ → Type 0
From a b m k = ((m ≡ a) × (k ≡ b)) ⊎ (((m ≡ b) × (k ≡ a)) ⊎ ((m ≢ a) × (m ≢ b) × (k ≡ m)))

origin : {X : Type 0} (f g : ℕ → X) (a b m : ℕ) → Swapped f g a b → (m ≡ a) ⊎ (m ≢ a) → (m ≡ b) ⊎ (m ≢ b) → (k : ℕ) × From a b m k × (g m ≡ f k)
origin f g a b m s (inl e) y = (b, inl (e, refl), ap g e ∙ s.0)
origin f g a b m s (inr n) (inl e) = (a, inr (inl (e, refl)), ap g e ∙ s.1)
origin f g a b m s (inr n) (inr o) = (m, inr (inr (n, o, refl)), s.2 m n o)

distinct-swap : (ks : List (List ℕ)) (a b : ℕ) → a < length ks → b < length ks → AreDistinct ks → AreDistinct (swap ks a b)
distinct-swap ks a b p q h i j d less within e =
    let len = length-swap ks a b in
    let s = swapped_from_swap ks (swap ks a b) a b d p q refl in
    let x = origin _ _ a b i s (cases_eq i a) (cases_eq i b) in
    let y = origin _ _ a b j s (cases_eq j a) (cases_eq j b) in
    let same = either_way ks h x.0 y.0 d (omega (arith, x.1)) (omega (arith, y.1)) (sym x.2 ∙ e ∙ y.2) in
    omega (arith, x.1, y.1)

only_less : (o p : Ordering) → o ≡ ordering_reverse p → is_lt p ≡ false → is_eq o ≡ false → o ≡ Less
only_less o Less e p q = cc
only_less o Equal e p q = let tie = ap is_eq (sym e) ∙ q in cc
only_less o Greater e p q = e

differ : (a b : List ℕ) → a ≢ b → is_eq (slice_cmp nat_cmp a b) ≡ false
differ a b other = is_eq-slice_cmp a b ∙ tested (bytes_eq a b) refl
  where
    tested : (t : Bool) → bytes_eq a b ≡ t → t ≡ false
    tested true e = absurd (other ((bytes_eq-Decides a b).0 e))
    tested false e = refl

rising_from_sorted : (ks : List (List ℕ)) → IsSorted (slice_cmp nat_cmp) ks → AreDistinct ks → AllPairs (λ a b. slice_cmp nat_cmp a b ≡ Less) ks
rising_from_sorted ks sorted distinct i j d less within =
    let rises : (k : ℕ) → k + 1 < length ks → slice_cmp nat_cmp (get_or ks k d) (get_or ks (k + 1) d) ≡ Less =
    λ k h. let x = get_or ks k d in let y = get_or ks (k + 1) d in
    only_less (slice_cmp nat_cmp x y) (slice_cmp nat_cmp y x) (nat_list_cmp_total.antisymm x y) (sorted k d (omega arith) h) (differ x y (distinct k (k + 1) d (omega arith) h)) in
    Less-from_sorted (slice_cmp nat_cmp) ks i j d (sorted_from_all_adjacent nat_list_cmp_total ks d rises) less within

pub in_order : (words names : List (List ℕ)) → ArePlatforms words → IsPermutation words names → IsSorted (slice_cmp nat_cmp) names → ArePlatformsInOrder names
in_order words names are moved sorted = record {
  each = All-permutation (λ word. is_platform word ≡ true) words names moved are.each;
  rising = rising_from_sorted names sorted (IsPermutation-keeps words AreDistinct are.distinct distinct-swap names moved);
  few = omega (arith, are.few, length_permutation words names moved);
}

pub decided : (names : List (List ℕ)) (word : List ℕ) (r : Bool) → ArePlatforms names → length names < 32 → is_platform word ≡ true → r ≡ list_any (λ name. bytes_eq name word) names
    → MatchBool r (¬ (ArePlatforms (names ++ word ∷ []))) (ArePlatforms (names ++ word ∷ []))
decided names word true are room form is = repeated names word (sym is)
decided names word false are room form is = one_more names word are room form (sym is)

pub last_platform : (names : List (List ℕ)) (word : List ℕ) → ArePlatforms (names ++ word ∷ []) → is_platform word ≡ true
last_platform names word are =
    sym (ap is_platform (last_at names word word)) ∙ are.each (length names) word (omega (arith, length-append names (word ∷ [])))

-- what an answer says of the names that stand behind a reference

pub refused : (names : List (List ℕ)) (word : List ℕ) (r : Bool) → MatchBool r (¬ (ArePlatforms (names ++ word ∷ []))) (ArePlatforms (names ++ word ∷ []))
    → r ≡ true → (kept : List (List ℕ)) → names ≡ kept → ¬ (ArePlatforms (kept ++ word ∷ []))
refused names word r answer is kept same =
    subst (λ ns. ¬ (ArePlatforms (ns ++ word ∷ []))) same (subst (λ b. MatchBool b (¬ (ArePlatforms (names ++ word ∷ []))) (ArePlatforms (names ++ word ∷ []))) is answer)

pub taken : (names : List (List ℕ)) (word : List ℕ) (r : Bool) → MatchBool r (¬ (ArePlatforms (names ++ word ∷ []))) (ArePlatforms (names ++ word ∷ []))
    → r ≡ false → (kept : List (List ℕ)) → names ≡ kept → ArePlatforms (kept ++ word ∷ [])
taken names word r answer is kept same =
    subst (λ ns. ArePlatforms (ns ++ word ∷ [])) same (subst (λ b. MatchBool b (¬ (ArePlatforms (names ++ word ∷ []))) (ArePlatforms (names ++ word ∷ []))) is answer)

pub not_false : (b : Bool) → not b ≡ false → b ≡ true
not_false true is = refl
not_false false is = absurd (true≢false is)
