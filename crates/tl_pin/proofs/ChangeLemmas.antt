-- The first pin of a list that passes a test, and what becomes of it.
use Rattle.std.proofs.Common.{◌≡◌, ℕ, zero, suc, ◌+◌, ◌<◌, ◌≤◌, ◌||◌, Bool, true, false, cond, List, [], ◌∷◌, ◌++◌, length, get_or, set, take, drop, Some, None, refl, sym, ap, subst, ◌∙◌, inl, inr, arith}
use Rattle.std.specs.Prelude.{position}
use Rattle.std.specs.Str.{bytes_eq}
use Rattle.std.specs.List.{All, list_all, list_any, position_or_len}
use Rattle.std.proofs.lemmas.Bool.{cases_Bool, ltb-false, or_from, or_parts, and_parts}
use Rattle.std.proofs.lemmas.List.{set_split, get_or_default}
use Rattle.std.proofs.lemmas.List.Elements.{All-take, All-drop, All-append}
use Rattle.std.proofs.lemmas.List.Folds.{list_any_at}
use Rattle.std.proofs.lemmas.List.Quantifiers.{position-Some}
use Rattle.std.proofs.lemmas.List.Sums.{AllPass-from_list_all, list_all-from_AllPass, fails_before_first}
use Rattle.tl_pin.specs.declared.line.PinLine.{PinLine}
use Rattle.tl_pin.specs.Form.{is_pin_glob, ArePinGlobs, without_first}
use Rattle.tl_pin.specs.Changes.{has_tag, has_glob, with_globs, pin_if_any, without_glob}

module _ {A : Type 0} (test : A → Bool) where
  -- the first element that passes stands there
  pub record IsFirstAt (xs : List A) (i : ℕ) (x : A) : Type 0 where
    pub within : i < length xs
    pub at : x ≡ get_or xs i x
    pub passes : test x ≡ true
    pub before : (k : ℕ) → k < i → test (get_or xs k x) ≡ false

  pub first_at : (xs : List A) (i : ℕ) (x : A) → Some i ≡ position test xs → x ≡ get_or xs i x → IsFirstAt xs i x
  first_at xs i x is at = let h = position-Some test xs i x (sym is) in record { within = h.0; at = at; passes = ap test at ∙ h.1; before = h.2 }

  later_first : (y : A) (xs : List A) (i : ℕ) (x : A) → IsFirstAt (y ∷ xs) (suc i) x → IsFirstAt xs i x
  later_first y xs i x here = record {
    within = omega (arith, here.within);
    at = here.at;
    passes = here.passes;
    before = λ k lt. here.before (suc k) (omega arith);
  }

  none_at : (xs : List A) → None ≡ position test xs → (k : ℕ) (d : A) → k < length xs → test (get_or xs k d) ≡ false
  none_at xs is k d lt =
      let past : length xs ≤ position_or_len test xs = ltb-false (position_or_len test xs) (length xs) (absent (position_or_len test xs) _ (sym is)) in
      fails_before_first test xs k d (omega (arith, past, lt))
    where
      absent : (n : ℕ) (t : Bool) → cond t (Some n) None ≡ None → t ≡ false
      absent n true is = absurd (cc)
      absent n false is = refl

  any_none : (xs : List A) → ((k : ℕ) (d : A) → k < length xs → test (get_or xs k d) ≡ false) → list_any test xs ≡ false
  any_none [] none = refl
  any_none (x ∷ xs) none = or_from (test x) (list_any test xs) (none 0 x (omega arith)) (any_none xs (λ k d lt. none (suc k) d (omega arith)))

  -- no element passes
  pub none_first : (xs : List A) → None ≡ position test xs → list_any test xs ≡ false
  none_first xs is = any_none xs (none_at xs is)

  -- some element passes
  pub some_first : (xs : List A) (i : ℕ) (x : A) → IsFirstAt xs i x → list_any test xs ≡ true
  some_first xs i x here = list_any_at test xs i x here.within (ap test (sym here.at) ∙ here.passes)

-- globs without the first one that is the given one, which stands there
pub without_first-at : (glob : List ℕ) (globs : List (List ℕ)) (i : ℕ) (g : List ℕ) → IsFirstAt (λ h. bytes_eq h glob) globs i g → take i globs ++ drop (suc i) globs ≡ without_first glob globs
without_first-at glob [] i g here = absurd (omega (arith, here.within))
without_first-at glob (h ∷ globs) zero g here =
    sym (ap (λ t. cond t globs (h ∷ without_first glob globs)) (ap (λ (x : List ℕ). bytes_eq x glob) (sym here.at) ∙ here.passes))
without_first-at glob (h ∷ globs) (suc i) g here =
    ap (λ (gs : List (List ℕ)). h ∷ gs) (without_first-at glob globs i g (later_first (λ h. bytes_eq h glob) h globs i g here))
    ∙ sym (ap (λ t. cond t globs (h ∷ without_first glob globs)) (here.before 0 (omega arith)))

pub without_first-none : (glob : List ℕ) (globs : List (List ℕ)) → None ≡ position (λ h. bytes_eq h glob) globs → globs ≡ without_first glob globs
without_first-none glob globs is = by globs (none_first (λ h. bytes_eq h glob) globs is)
  where
    by : (globs : List (List ℕ)) → list_any (λ h. bytes_eq h glob) globs ≡ false → globs ≡ without_first glob globs
    by [] none = refl
    by (h ∷ globs) none =
        let parts = or_parts (bytes_eq h glob) _ none in
        ap (λ (gs : List (List ℕ)). h ∷ gs) (by globs parts.1) ∙ sym (ap (λ t. cond t globs (h ∷ without_first glob globs)) parts.0)

-- globs without one of several are globs that a pin may have
pub globs_left : (globs left : List (List ℕ)) (i : ℕ) → left ≡ take i globs ++ drop (suc i) globs → length left + 1 ≡ length globs → 1 < length globs → ArePinGlobs globs → ArePinGlobs left
globs_left globs left i is len some are =
    let all : All (λ g. is_pin_glob g ≡ true) globs = AllPass-from_list_all is_pin_glob globs are.form in
    record {
      some = omega (arith, len, some);
      form = ap (list_all is_pin_glob) is ∙ list_all-from_AllPass is_pin_glob (take i globs ++ drop (suc i) globs)
          (All-append (λ g. is_pin_glob g ≡ true) (take i globs) (drop (suc i) globs) (All-take (λ g. is_pin_glob g ≡ true) i globs all) (All-drop (λ g. is_pin_glob g ≡ true) (suc i) globs all));
    }

-- more globs for the first pin with a tag, which stands there
pub with_globs-at : (tag : List ℕ) (globs : List (List ℕ)) (pins : List PinLine) (i : ℕ) (pin : PinLine) → IsFirstAt (has_tag tag) pins i pin
    → set pins i (record pin { globs = pin.globs ++ globs }) ≡ with_globs tag globs pins
with_globs-at tag globs [] i pin here = absurd (omega (arith, here.within))
with_globs-at tag globs (first ∷ pins) zero pin here =
    ap (λ (p : PinLine). record p { globs = p.globs ++ globs } ∷ pins) here.at
    ∙ sym (ap (λ t. cond t (record first { globs = first.globs ++ globs } ∷ pins) (first ∷ with_globs tag globs pins)) (ap (has_tag tag) (sym here.at) ∙ here.passes))
with_globs-at tag globs (first ∷ pins) (suc i) pin here =
    ap (λ (ps : List PinLine). first ∷ ps) (with_globs-at tag globs pins i pin (later_first (has_tag tag) first pins i pin here))
    ∙ sym (ap (λ t. cond t (record first { globs = first.globs ++ globs } ∷ pins) (first ∷ with_globs tag globs pins)) (here.before 0 (omega arith)))

pub with_globs-none : (tag : List ℕ) (globs : List (List ℕ)) (pins : List PinLine) → None ≡ position (has_tag tag) pins → pins ++ record { tag = tag; globs = globs } ∷ [] ≡ with_globs tag globs pins
with_globs-none tag globs pins is = by pins (none_first (has_tag tag) pins is)
  where
    by : (pins : List PinLine) → list_any (has_tag tag) pins ≡ false → pins ++ record { tag = tag; globs = globs } ∷ [] ≡ with_globs tag globs pins
    by [] none = refl
    by (first ∷ pins) none =
        let parts = or_parts (has_tag tag first) _ none in
        ap (λ (ps : List PinLine). first ∷ ps) (by pins parts.1)
        ∙ sym (ap (λ t. cond t (record first { globs = first.globs ++ globs } ∷ pins) (first ∷ with_globs tag globs pins)) parts.0)

-- pins without a glob whose first occurrence is in the pin there
without-at : (tag glob : List ℕ) (pins : List PinLine) (i : ℕ) (pin : PinLine) → IsFirstAt (has_glob tag glob) pins i pin
    → take i pins ++ (pin_if_any pin.tag (without_first glob pin.globs) ++ drop (suc i) pins) ≡ without_glob tag glob pins
without-at tag glob [] i pin here = absurd (omega (arith, here.within))
without-at tag glob (first ∷ pins) zero pin here =
    ap (λ (p : PinLine). pin_if_any p.tag (without_first glob p.globs) ++ pins) here.at
    ∙ sym (ap (λ t. cond t (pin_if_any first.tag (without_first glob first.globs) ++ pins) (first ∷ without_glob tag glob pins)) (ap (has_glob tag glob) (sym here.at) ∙ here.passes))
without-at tag glob (first ∷ pins) (suc i) pin here =
    ap (λ (ps : List PinLine). first ∷ ps) (without-at tag glob pins i pin (later_first (has_glob tag glob) first pins i pin here))
    ∙ sym (ap (λ t. cond t (pin_if_any first.tag (without_first glob first.globs) ++ pins) (first ∷ without_glob tag glob pins)) (here.before 0 (omega arith)))

one_less : (glob : List ℕ) (globs : List (List ℕ)) → list_any (λ g. bytes_eq g glob) globs ≡ true → length globs ≡ 1 → without_first glob globs ≡ []
one_less glob [] there one = refl
one_less glob (g ∷ []) there one = ap (λ t. cond t [] (g ∷ [])) (or_false (bytes_eq g glob) there)
  where
    or_false : (t : Bool) → (t || false) ≡ true → t ≡ true
    or_false true is = refl
    or_false false is = is
one_less glob (g ∷ h ∷ globs) there one = absurd (omega (arith, one))

-- the glob was the last one of that pin
pub without_glob-last : (tag glob : List ℕ) (pins : List PinLine) (i : ℕ) (pin : PinLine) → IsFirstAt (has_glob tag glob) pins i pin → length pin.globs ≡ 1
    → take i pins ++ drop (suc i) pins ≡ without_glob tag glob pins
without_glob-last tag glob pins i pin here one =
    ap (λ (gs : List (List ℕ)). take i pins ++ (pin_if_any pin.tag gs ++ drop (suc i) pins)) (sym (one_less glob pin.globs (and_parts (has_tag tag pin) _ here.passes).1 one))
    ∙ without-at tag glob pins i pin here

any_pin : (tag : List ℕ) (globs : List (List ℕ)) → 0 < length globs → record { tag = tag; globs = globs } ∷ [] ≡ pin_if_any tag globs
any_pin tag [] some = absurd (omega arith)
any_pin tag (g ∷ globs) some = refl

length-without_first : (glob : List ℕ) (globs : List (List ℕ)) → length globs ≤ length (without_first glob globs) + 1
length-without_first glob [] = omega arith
length-without_first glob (g ∷ globs) = elim (cases_Bool (bytes_eq g glob)) [
  | inl is ↦ rw is (omega arith)
  | inr other ↦ rw other (omega (arith, length-without_first glob globs))
]

-- that pin has more globs
pub without_glob-more : (tag glob : List ℕ) (pins : List PinLine) (i : ℕ) (pin : PinLine) → IsFirstAt (has_glob tag glob) pins i pin → 1 < length pin.globs
    → set pins i (record pin { globs = without_first glob pin.globs }) ≡ without_glob tag glob pins
without_glob-more tag glob pins i pin here more =
    set_split pins i (record pin { globs = without_first glob pin.globs }) here.within
    ∙ ap (λ (ps : List PinLine). take i pins ++ (ps ++ drop (suc i) pins)) (any_pin pin.tag (without_first glob pin.globs) (omega (arith, length-without_first glob pin.globs, more)))
    ∙ without-at tag glob pins i pin here

-- a pin that was read twice has more than one glob
pub more_globs : (pins : List PinLine) (i : ℕ) (pin other : PinLine) (globs : List (List ℕ)) → i < length pins → pin ≡ get_or pins i pin → other ≡ get_or pins i other → globs ≡ other.globs
    → 0 < length other.globs → (length globs ≡ 1 → ⊥) → 1 < length pin.globs
more_globs pins i pin other globs lt at at' are some several =
    let same : pin ≡ other = at ∙ get_or_default pins i pin other lt ∙ sym at' in
    let several' : length other.globs ≡ 1 → ⊥ = λ one. several (ap (λ (gs : List (List ℕ)). length gs) are ∙ one) in
    subst (λ (p : PinLine). 1 < length p.globs) (sym same) (omega (arith, some, several'))

pub without_glob-none : (tag glob : List ℕ) (pins : List PinLine) → None ≡ position (has_glob tag glob) pins → pins ≡ without_glob tag glob pins
without_glob-none tag glob pins is = by pins (none_first (has_glob tag glob) pins is)
  where
    by : (pins : List PinLine) → list_any (has_glob tag glob) pins ≡ false → pins ≡ without_glob tag glob pins
    by [] none = refl
    by (first ∷ pins) none =
        let parts = or_parts (has_glob tag glob first) _ none in
        ap (λ (ps : List PinLine). first ∷ ps) (by pins parts.1)
        ∙ sym (ap (λ t. cond t (pin_if_any first.tag (without_first glob first.globs) ++ pins) (first ∷ without_glob tag glob pins)) parts.0)
