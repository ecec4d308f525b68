-- A path is below a folder where the folder and a '/' stand at its front.
use Rattle.std.proofs.Common.{◌≡◌, ◌≢◌, ◌⊎◌, zero, suc, ◌<◌, ◌≤◌, ℕ, Bool, true, false, ◌&&◌, List, [], ◌∷◌, ◌++◌, length, get_or, take, refl, sym, ap, subst, ◌∙◌, nat_eq, arith, inl, inr}
use Rattle.std.specs.Prelude.{nat_lt}
use Rattle.std.specs.Ordering.{nat_cmp, is_lt, ordering_then}
use Rattle.std.specs.declared.cmp.Ordering.{Ordering}
use Rattle.std.specs.Cmp.Lexicographic.{slice_cmp, pointwise, texts_ties}
use Rattle.std.proofs.lemmas.Bool.{cases_Bool, true≢false, ltb-true, lt-ltb}
use Rattle.std.proofs.lemmas.Bool.Decides.{nat_tests}
use Rattle.tl_model.specs.Volume.{same_name-is}
use Rattle.tl_path.specs.Components.{is_below}
use Rattle.tl_path.proofs.Front.{is_below-begins, is_below_short, is_below_other, is_below_same}
use Rattle.tl_entry.specs.Rising.{comes_before}

-- the folder and a '/' at the path's front
abbrev pub begins : List ℕ → List ℕ → Bool
begins [] [] = false
begins [] (p ∷ path) = nat_eq p 47
begins (d ∷ dir) [] = false
begins (d ∷ dir) (p ∷ path) = nat_eq d p && begins dir path

pub below_begins : (dir path : List ℕ) → is_below path dir ≡ begins dir path
below_begins dir path = is_below-begins dir path

-- what a path that is below a folder has
pub record HasFront (dir path : List ℕ) : Type 0 where
  pub shorter : length dir < length path
  pub slash : get_or path (length dir) 0 ≡ 47
  pub front : take (length dir) path ≡ dir

pub front_of : (dir path : List ℕ) → is_below path dir ≡ true → HasFront dir path
front_of dir path is = by (cases_Bool (nat_lt (length dir) (length path)))
  where
    bytes_same : (a b : List ℕ) → pointwise nat_eq a b ≡ true → a ≡ b
    bytes_same a b e = same_name-is a b (sym (texts_ties a b) ∙ e)

    slashed : (length dir < length path) → (nat_eq (get_or path (length dir) 0) 47 ≡ true) ⊎ (nat_eq (get_or path (length dir) 0) 47 ≡ false) → HasFront dir path
    slashed less (inl e) =
        let slash : get_or path (length dir) 0 ≡ 47 = grind (arith, nat_tests) in
        record { shorter = less; slash = slash; front = bytes_same _ _ (is_below_same path dir less slash ∙ is) }
    slashed less (inr e) =
        let other : get_or path (length dir) 0 ≢ 47 = grind (arith, nat_tests) in
        absurd (true≢false (sym is ∙ is_below_other path dir other))

    by : (nat_lt (length dir) (length path) ≡ true) ⊎ (nat_lt (length dir) (length path) ≡ false) → HasFront dir path
    by (inl e) = slashed (ltb-true (length dir) (length path) e) (cases_Bool (nat_eq (get_or path (length dir) 0) 47))
    by (inr e) =
        let short : length path ≤ length dir = grind (arith, nat_tests) in
        absurd (true≢false (sym is ∙ is_below_short path dir short))

-- a path is below its front before a '/'
pub below_front : (path : List ℕ) (end : ℕ) → end < length path → get_or path end 0 ≡ 47 → is_below path (take end path) ≡ true
below_front path end less slash = below_begins (take end path) path ∙ starts path end less slash
  where
    starts : (path : List ℕ) (end : ℕ) → end < length path → get_or path end 0 ≡ 47 → begins (take end path) path ≡ true
    starts [] end less slash = absurd (omega arith)
    starts (p ∷ path) zero less slash = grind (arith, nat_tests)
    starts (p ∷ path) (suc end) less slash = let same : nat_eq p p ≡ true = grind (arith, nat_tests) in ap (λ t. t && begins (take end path) path) same ∙ starts path end (omega arith) slash

-- a path with a '/' behind it is below itself
pub below_slashed : (path : List ℕ) → is_below (path ++ 47 ∷ []) path ≡ true
below_slashed path = below_begins path (path ++ 47 ∷ []) ∙ starts path
  where
    starts : (path : List ℕ) → begins path (path ++ 47 ∷ []) ≡ true
    starts [] = refl
    starts (p ∷ path) = let same : nat_eq p p ≡ true = grind (arith, nat_tests) in ap (λ t. t && begins path (path ++ 47 ∷ [])) same ∙ starts path

-- texts in order, by their first bytes
head_less : (a b : ℕ) (r : Ordering) → a < b → is_lt (ordering_then (nat_cmp a b) r) ≡ true
head_less a b r less = let e : nat_lt a b ≡ true = lt-ltb a b less in rw e

head_same : (a : ℕ) (r : Ordering) → is_lt (ordering_then (nat_cmp a a) r) ≡ is_lt r
head_same a r =
    let e : nat_lt a a ≡ false = grind (arith, nat_tests) in
    let f : nat_eq a a ≡ true = grind (arith, nat_tests) in rw (e, f)

head_more : (a b : ℕ) (r : Ordering) → b < a → is_lt (ordering_then (nat_cmp a b) r) ≡ false
head_more a b r more =
    let e : nat_lt a b ≡ false = grind (arith, nat_tests) in
    let f : nat_eq a b ≡ false = grind (arith, nat_tests) in rw (e, f)

both : (a b : Bool) → (a && b) ≡ true → (a ≡ true) × (b ≡ true)
both true b e = (refl, e)
both false b e = absurd (cc)

eq_true : (a b : ℕ) → nat_eq a b ≡ true → a ≡ b
eq_true a b e = grind (arith, nat_tests)

-- what is below a path doesn't come before the path with a '/' behind it
pub not_before : (path other : List ℕ) → is_below other path ≡ true → comes_before other (path ++ 47 ∷ []) ≡ false
not_before path other is = by path other (sym (below_begins path other) ∙ is)
  where
    ends : (o : ℕ) (other : List ℕ) → o ≡ 47 → comes_before (o ∷ other) (47 ∷ []) ≡ false
    ends o [] e = subst (λ (n : ℕ). comes_before (n ∷ []) (47 ∷ []) ≡ false) (sym e) refl
    ends o (o' ∷ other) e = subst (λ (n : ℕ). comes_before (n ∷ o' ∷ other) (47 ∷ []) ≡ false) (sym e) refl

    by : (path other : List ℕ) → begins path other ≡ true → comes_before other (path ++ 47 ∷ []) ≡ false
    by [] [] is = absurd (true≢false (sym is))
    by [] (o ∷ other) is = ends o other (eq_true o 47 is)
    by (p ∷ path) [] is = absurd (true≢false (sym is))
    by (p ∷ path) (o ∷ other) is =
        let parts = both (nat_eq p o) (begins path other) is in
        subst (λ (n : ℕ). comes_before (n ∷ other) (p ∷ (path ++ 47 ∷ [])) ≡ false) (eq_true p o parts.0)
        (head_same p (slice_cmp nat_cmp other (path ++ 47 ∷ [])) ∙ by path other parts.1)

data Ranked (a b : ℕ) : Type 0 where
  is_less : a < b → Ranked a b
  is_same : a ≡ b → Ranked a b
  is_more : b < a → Ranked a b

ranked : (a b : ℕ) → Ranked a b
ranked a b = elim (cases_Bool (nat_lt a b)) [
  | inl e ↦ is_less (ltb-true a b e)
  | inr e ↦ elim (cases_Bool (nat_eq a b)) [
    | inl f ↦ is_same (eq_true a b f)
    | inr f ↦ is_more (grind (arith, nat_tests))
  ]
]

-- what stands between the path with a '/' behind it and what is below the path is below it
pub between : (path next other : List ℕ) → comes_before (path ++ 47 ∷ []) next ≡ true → comes_before other next ≡ false → is_below other path ≡ true → is_below next path ≡ true
between path next other from to is = below_begins path next ∙ by path next other from to (sym (below_begins path other) ∙ is)
  where
    first : (n o : ℕ) (next other : List ℕ) → Ranked n 47 → comes_before (47 ∷ []) (n ∷ next) ≡ true → comes_before (o ∷ other) (n ∷ next) ≡ false → o ≡ 47 → nat_eq n 47 ≡ true
    first n o next other (is_less e) from to is = absurd (true≢false (sym from ∙ head_more 47 n _ e))
    first n o next other (is_same e) from to is = grind (arith, nat_tests)
    first n o next other (is_more e) from to is = absurd (true≢false (sym (head_less o n _ (subst (λ (m : ℕ). m < n) (sym is) e)) ∙ to))

    by : (path next other : List ℕ) → comes_before (path ++ 47 ∷ []) next ≡ true → comes_before other next ≡ false → begins path other ≡ true → begins path next ≡ true
    by [] [] other from to is = absurd (true≢false (sym from))
    by [] (n ∷ next) [] from to is = absurd (true≢false (sym is))
    by [] (n ∷ next) (o ∷ other) from to is = first n o next other (ranked n 47) from to (eq_true o 47 is)
    by (p ∷ path) [] other from to is = absurd (true≢false (sym from))
    by (p ∷ path) (n ∷ next) [] from to is = absurd (true≢false (sym is))
    by (p ∷ path) (n ∷ next) (o ∷ other) from to is =
        let parts = both (nat_eq p o) (begins path other) is in
        let to' : comes_before (p ∷ other) (n ∷ next) ≡ false = subst (λ (m : ℕ). comes_before (m ∷ other) (n ∷ next) ≡ false) (sym (eq_true p o parts.0)) to in
        elim (ranked p n) [
          | is_less e ↦ absurd (true≢false (sym (head_less p n (slice_cmp nat_cmp other next) e) ∙ to'))
          | is_same e ↦
              let same : nat_eq p n ≡ true = grind (arith, nat_tests) in
              ap (λ t. t && begins path next) same
              ∙ by path next other (sym (head_same p (slice_cmp nat_cmp (path ++ 47 ∷ []) next)) ∙ subst (λ (m : ℕ). comes_before (p ∷ (path ++ 47 ∷ [])) (m ∷ next) ≡ true) (sym e) from)
              (sym (head_same p (slice_cmp nat_cmp other next)) ∙ subst (λ (m : ℕ). comes_before (p ∷ other) (m ∷ next) ≡ false) (sym e) to') parts.1
          | is_more e ↦ absurd (true≢false (sym from ∙ head_more p n (slice_cmp nat_cmp (path ++ 47 ∷ []) next) e))
        ]
