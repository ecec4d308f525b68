-- Which of some paths touch another one.
use Rattle.std.proofs.Common.{◌≡◌, ◌<◌, ℕ, zero, suc, Bool, true, false, ◌&&◌, ◌||◌, List, [], ◌∷◌, ◌++◌, length, get_or, take, refl, sym, ap, subst, ◌∙◌, arith, inl, inr}
use Rattle.std.specs.Prelude.{nat_lt}
use Rattle.std.specs.List.{list_any}
use Rattle.std.specs.Str.{bytes_eq}
use Rattle.std.specs.Cmp.Lexicographic.{texts_ties}
use Rattle.std.proofs.lemmas.Bool.{cases_Bool, true≢false, lt-ltb}
use Rattle.std.proofs.lemmas.Bool.Decides.{nat_tests}
use Rattle.tl_model.specs.Volume.{same_name, same_name-is, same_name-refl}
use Rattle.tl_path.specs.Components.{is_below, is_touching}
use Rattle.tl_entry.specs.Rising.{comes_before, has_key, is_rising, is_rising_after, IsPlace}
use Rattle.tl_entry.proofs.RisingLemmas.{before_trans, before_not}
use Rattle.tl_touch.proofs.Fronts.{HasFront, front_of, below_front, below_slashed, not_before, between}

abbrev Texts : Type 0
Texts = List (List ℕ)

both : (a b : Bool) → (a && b) ≡ true → (a ≡ true) × (b ≡ true)
both true b e = (refl, e)
both false b e = absurd (cc)

or_false : (a b : Bool) → (a || b) ≡ false → (a ≡ false) × (b ≡ false)
or_false true b e = absurd (cc)
or_false false b e = (refl, e)

or_true : (a : Bool) → (a || true) ≡ true
or_true true = refl
or_true false = refl

-- where no front of a path before a '/' is among some paths, it is below none of them
pub none_above : (path : List ℕ) (paths : Texts) → ((k : ℕ) → k < length path → get_or path k 0 ≡ 47 → has_key (λ p. p) (take k path) paths ≡ false)
    → list_any (λ other. is_below path other) paths ≡ false
none_above path [] none = refl
none_above path (other ∷ paths) none = elim (cases_Bool (is_below path other)) [
  | inl is ↦
      let front : HasFront other path = front_of other path is in
      let apart : same_name other other ≡ false = (or_false _ _ (subst (λ (t : List ℕ). has_key (λ p. p) t (other ∷ paths) ≡ false) front.front (none (length other) front.shorter front.slash))).0 in
      absurd (true≢false (sym (same_name-refl other) ∙ apart))
  | inr off ↦ ap (λ t. t || list_any (λ o. is_below path o) paths) off ∙ none_above path paths (λ k less slash. (or_false _ _ (none k less slash)).1)
]

-- where one is, it is below it
pub one_above : (path : List ℕ) (paths : Texts) (end : ℕ) → end < length path → get_or path end 0 ≡ 47 → has_key (λ p. p) (take end path) paths ≡ true
    → list_any (λ other. is_below path other) paths ≡ true
one_above path [] end less slash has = absurd (true≢false (sym has))
one_above path (other ∷ paths) end less slash has = elim (cases_Bool (same_name other (take end path))) [
  | inl same ↦ ap (λ t. t || list_any (λ o. is_below path o) paths) (ap (is_below path) (same_name-is other (take end path) same) ∙ below_front path end less slash)
  | inr apart ↦ ap (λ t. is_below path other || t) (one_above path paths end less slash (ap (λ t. t || has_key (λ p. p) (take end path) paths) (sym apart) ∙ has)) ∙ or_true (is_below path other)
]

-- a path with a '/' behind it among some is below the path
pub slashed_below : (path : List ℕ) (paths : Texts) → has_key (λ p. p) (path ++ 47 ∷ []) paths ≡ true → list_any (λ other. is_below other path) paths ≡ true
slashed_below path [] has = absurd (true≢false (sym has))
slashed_below path (other ∷ paths) has = elim (cases_Bool (same_name other (path ++ 47 ∷ []))) [
  | inl same ↦ ap (λ t. t || list_any (λ o. is_below o path) paths) (ap (λ (o : List ℕ). is_below o path) (same_name-is other (path ++ 47 ∷ []) same) ∙ below_slashed path)
  | inr apart ↦ ap (λ t. is_below other path || t) (slashed_below path paths (ap (λ t. t || has_key (λ p. p) (path ++ 47 ∷ []) paths) (sym apart) ∙ has)) ∙ or_true (is_below other path)
]

-- where the first path behind it isn't below a path, none is
none_after : (path next : List ℕ) (paths : Texts) → comes_before (path ++ 47 ∷ []) next ≡ true → is_below next path ≡ false → is_rising_after (λ p. p) next paths ≡ true
    → list_any (λ other. is_below other path) paths ≡ false
none_after path next [] from off up = refl
none_after path next (other ∷ paths) from off up =
    let parts = both (comes_before next other) (is_rising_after (λ p. p) other paths) up in
    elim (cases_Bool (is_below other path)) [
      | inl is ↦ absurd (true≢false (sym (between path next other from (before_not next other parts.0) is) ∙ off))
      | inr none ↦ ap (λ t. t || list_any (λ o. is_below o path) paths) none
          ∙ none_after path other paths (before_trans (path ++ 47 ∷ []) next other from parts.0) none parts.1
    ]

tail_rising : (first : List ℕ) (others : Texts) → is_rising_after (λ (p : List ℕ). p) first others ≡ true → is_rising (λ (p : List ℕ). p) others ≡ true
tail_rising first [] up = refl
tail_rising first (next ∷ others) up = (both _ _ up).1

-- whether the path at a place of some is below another one
abbrev pub is_below_at : Texts → ℕ → List ℕ → Bool
is_below_at paths at path = nat_lt at (length paths) && is_below (get_or paths at []) path

lt_shift : (a b : ℕ) → nat_lt (suc a) (suc b) ≡ nat_lt a b
lt_shift a b = grind (arith, nat_tests)

-- one of some paths is below another where the first is that doesn't come before it with a '/' behind it
pub below_at : (path : List ℕ) (paths : Texts) (at : ℕ) → is_rising (λ p. p) paths ≡ true → IsPlace (λ p. p) (path ++ 47 ∷ []) paths at
    → is_below_at paths at path ≡ list_any (λ other. is_below other path) paths
below_at path [] at up place = let e : nat_lt at 0 ≡ false = grind (arith, nat_tests) in ap (λ t. t && is_below (get_or [] at []) path) e
below_at path (next ∷ paths) zero up place =
    let first : is_below_at (next ∷ paths) 0 path ≡ is_below next path = ap (λ t. t && is_below next path) (lt-ltb 0 (suc (length paths)) (omega arith)) in
    first ∙ elim (cases_Bool (is_below next path)) [
      | inl is ↦ is ∙ sym (ap (λ t. t || list_any (λ o. is_below o path) paths) is)
      | inr off ↦ off ∙ sym (ap (λ t. t || list_any (λ o. is_below o path) paths) off ∙ none_after path next paths (place.above 0 [] (omega arith) (omega arith)) off up)
    ]
below_at path (next ∷ paths) (suc at) up place =
    let here : comes_before next (path ++ 47 ∷ []) ≡ true = place.below 0 [] (omega arith) in
    let shifted : is_below_at (next ∷ paths) (suc at) path ≡ is_below_at paths at path = ap (λ t. t && is_below (get_or paths at []) path) (lt_shift at (length paths)) in
    shifted ∙ elim (cases_Bool (is_below next path)) [
      | inl is ↦ absurd (true≢false (sym here ∙ not_before path next is))
      | inr off ↦ below_at path paths at (tail_rising next paths up) (record {
        within = let w = place.within in omega (arith, w);
        below = λ k d less. place.below (suc k) d (omega (arith, less));
        above = λ k d from less. place.above (suc k) d (omega (arith, from)) (omega (arith, less));
      }) ∙ sym (ap (λ t. t || list_any (λ o. is_below o path) paths) off)
    ]

-- what one of two tests finds
pub any_either : {X : Type 0} (p q : X → Bool) (xs : List X) → list_any (λ x. p x || q x) xs ≡ (list_any p xs || list_any q xs)
any_either p q [] = refl
any_either p q (x ∷ xs) = ap (λ t. (p x || q x) || t) (any_either p q xs) ∙ regroup (p x) (q x) (list_any p xs) (list_any q xs)
  where
    regroup : (a b c d : Bool) → ((a || b) || (c || d)) ≡ ((a || c) || (b || d))
    regroup true b c d = refl
    regroup false true true d = refl
    regroup false true false d = refl
    regroup false false c d = refl

pub same_either : (a b : List ℕ) → bytes_eq a b ≡ same_name b a
same_either a b = texts_ties a b ∙ elim (cases_Bool (same_name a b)) [
  | inl is ↦ subst (λ (c : List ℕ). same_name a c ≡ same_name c a) (same_name-is a b is) refl
  | inr apart ↦ elim (cases_Bool (same_name b a)) [
    | inl is ↦ subst (λ (c : List ℕ). same_name c b ≡ same_name b c) (same_name-is b a is) refl
    | inr apart' ↦ apart ∙ sym apart'
  ]
]

pub among_either : (path : List ℕ) (paths : Texts) → list_any (bytes_eq path) paths ≡ has_key (λ p. p) path paths
among_either path [] = refl
among_either path (other ∷ paths) = ap (λ t. t || list_any (bytes_eq path) paths) (same_either path other) ∙ ap (λ t. same_name other path || t) (among_either path paths)

-- what touches a path: the same one, what it is below, what is below it
pub touching : (path : List ℕ) (paths : Texts)
    → list_any (is_touching path) paths ≡ (has_key (λ p. p) path paths || (list_any (λ other. is_below path other) paths || list_any (λ other. is_below other path) paths))
touching path paths =
    any_either (bytes_eq path) (λ other. is_below path other || is_below other path) paths
    ∙ ap (λ t. t || list_any (λ other. is_below path other || is_below other path) paths) (among_either path paths)
    ∙ ap (λ t. has_key (λ p. p) path paths || t) (any_either (λ other. is_below path other) (λ other. is_below other path) paths)

pub bytes_same : (a b : List ℕ) → bytes_eq a b ≡ true → a ≡ b
bytes_same a b is = same_name-is a b (sym (texts_ties a b) ∙ is)

-- an element that passes a test is found by it
pub any_at : (p : List ℕ → Bool) (x : List ℕ) (ys : Texts) → has_key (λ (q : List ℕ). q) x ys ≡ true → p x ≡ true → list_any p ys ≡ true
any_at p x [] has is = absurd (true≢false (sym has))
any_at p x (y ∷ ys) has is = elim (cases_Bool (same_name y x)) [
  | inl same ↦ ap (λ t. t || list_any p ys) (ap p (same_name-is y x same) ∙ is)
  | inr apart ↦ ap (λ t. p y || t) (any_at p x ys (ap (λ t. t || has_key (λ (q : List ℕ). q) x ys) (sym apart) ∙ has) is) ∙ or_true (p y)
]

-- a test finds alike in lists with the same elements
pub any_members : (p : List ℕ → Bool) (xs ys : Texts) → ((w : List ℕ) → has_key (λ (q : List ℕ). q) w xs ≡ has_key (λ (q : List ℕ). q) w ys) → list_any p xs ≡ list_any p ys
any_members p xs ys same = elim (cases_Bool (list_any p xs)) [
  | inl there ↦ there ∙ sym (found xs ys (λ w is. sym (same w) ∙ is) there)
  | inr none ↦ elim (cases_Bool (list_any p ys)) [
    | inl there ↦ absurd (true≢false (sym (found ys xs (λ w is. same w ∙ is) there) ∙ none))
    | inr none' ↦ none ∙ sym none'
  ]
]
  where
    found : (xs ys : Texts) → ((w : List ℕ) → has_key (λ (q : List ℕ). q) w xs ≡ true → has_key (λ (q : List ℕ). q) w ys ≡ true) → list_any p xs ≡ true → list_any p ys ≡ true
    found [] ys within there = absurd (true≢false (sym there))
    found (x ∷ xs) ys within there = elim (cases_Bool (p x)) [
      | inl is ↦ any_at p x ys (within x (ap (λ t. t || has_key (λ (q : List ℕ). q) x xs) (same_name-refl x))) is
      | inr off ↦ found xs ys (λ w has. within w (ap (λ t. same_name x w || t) has ∙ or_true (same_name x w))) (ap (λ t. t || list_any p xs) (sym off) ∙ there)
    ]
