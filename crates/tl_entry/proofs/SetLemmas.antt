-- Rising lists of texts, which are sets of them.
use Rattle.std.proofs.Common.{◌≡◌, ◌⊎◌, ℕ, Bool, true, false, cond, ◌&&◌, ◌||◌, List, [], ◌∷◌, refl, sym, ap, subst, ◌∙◌, inl, inr}
use Rattle.std.specs.Prelude.{nat_eq}
use Rattle.std.specs.Ordering.{nat_cmp, is_lt}
use Rattle.std.specs.declared.cmp.Ordering.TheVariants.{Less}
use Rattle.std.specs.Cmp.Lexicographic.{slice_cmp, pointwise, nat_list_cmp_total, texts_ties}
use Rattle.std.specs.List.{AllByRecursion, dedup, dedup_from}
use Rattle.std.specs.List.Sorted.{IsPermutation, IsSorted, IsStrictlySortedBy}
use Rattle.std.proofs.lemmas.Bool.{cases_Bool, true≢false}
use Rattle.std.proofs.lemmas.List.Filters.{dedup_is}
use Rattle.std.proofs.lemmas.List.Kept.{IsStrictlySortedBy-dedup}
use Rattle.std.proofs.lemmas.List.Sorted.{list_any-IsPermutation}
use Rattle.std.specs.List.Retain.{IsFiltered, DiffersFromLast}
use Rattle.tl_model.specs.Volume.{same_name, same_name-is, same_name-refl}
use Rattle.tl_entry.specs.Rising.{comes_before, insert_by, has_key, is_rising, is_rising_after}
use Rattle.tl_entry.specs.FilePaths.{with_text, rising_of}
use Rattle.tl_entry.proofs.RisingLemmas.{before_trans, before_apart_back, before_other, rising-insert}

abbrev Texts : Type 0
Texts = List (List ℕ)

abbrev own : List ℕ → List ℕ
own text = text

both : (a b : Bool) → (a && b) ≡ true → (a ≡ true) × (b ≡ true)
both true b e = (refl, e)
both false b e = absurd (cc)

or_comm : (a b c : Bool) → (a || (b || c)) ≡ (b || (a || c))
or_comm true true c = refl
or_comm true false c = refl
or_comm false true c = refl
or_comm false false c = refl

-- what is a member of a list with one element more in its place
pub has-insert : {A : Type 0} (key : A → List ℕ) (wanted : List ℕ) (x : A) (xs : List A) → has_key key wanted (insert_by key x xs) ≡ (same_name (key x) wanted || has_key key wanted xs)
has-insert key wanted x [] = refl
has-insert key wanted x (y ∷ ys) = elim (cases_Bool (comes_before (key x) (key y))) [
  | inl first ↦ ap (λ t. has_key key wanted (cond t (x ∷ y ∷ ys) (y ∷ insert_by key x ys))) first
  | inr later ↦ ap (λ t. has_key key wanted (cond t (x ∷ y ∷ ys) (y ∷ insert_by key x ys))) later
      ∙ ap (λ t. same_name (key y) wanted || t) (has-insert key wanted x ys) ∙ or_comm (same_name (key y) wanted) (same_name (key x) wanted) (has_key key wanted ys)
]

-- nothing below the first element of a rising list is in it
pub none_below : (wanted first : List ℕ) (others : Texts) → comes_before wanted first ≡ true → is_rising_after own first others ≡ true → has_key own wanted (first ∷ others) ≡ false
none_below wanted first [] below up = ap (λ t. t || false) (before_apart_back wanted first below)
none_below wanted first (next ∷ others) below up =
    ap (λ t. t || has_key own wanted (next ∷ others)) (before_apart_back wanted first below)
    ∙ none_below wanted next others (before_trans wanted first next below (both _ _ up).0) (both _ _ up).1

-- the first element of a rising list comes no second time
pub none_again : (first : List ℕ) (others : Texts) → is_rising_after own first others ≡ true → has_key own first others ≡ false
none_again first [] up = refl
none_again first (next ∷ others) up = none_below first next others (both _ _ up).0 (both _ _ up).1

tail_rising : (first : List ℕ) (others : Texts) → is_rising_after own first others ≡ true → is_rising own others ≡ true
tail_rising first [] up = refl
tail_rising first (next ∷ others) up = (both _ _ up).1

has_first : (first : List ℕ) (others : Texts) → has_key own first (first ∷ others) ≡ true
has_first first others = ap (λ t. t || has_key own first others) (same_name-refl first)

data Trichotomy (a b : List ℕ) : Type 0 where
  is_below : comes_before a b ≡ true → Trichotomy a b
  is_same : a ≡ b → Trichotomy a b
  is_above : comes_before b a ≡ true → Trichotomy a b

trichotomy : (a b : List ℕ) → Trichotomy a b
trichotomy a b = elim (cases_Bool (comes_before a b)) [
  | inl first ↦ is_below first
  | inr later ↦ elim (cases_Bool (same_name b a)) [
    | inl is ↦ is_same (sym (same_name-is b a is))
    | inr apart ↦ is_above (before_other a b later apart)
  ]
]

-- two rising lists with the same members are one
pub rising_same : (xs ys : Texts) → is_rising own xs ≡ true → is_rising own ys ≡ true → ((w : List ℕ) → has_key own w xs ≡ has_key own w ys) → xs ≡ ys
rising_same [] [] up up' same = refl
rising_same [] (y ∷ ys) up up' same = absurd (true≢false (sym (has_first y ys) ∙ sym (same y)))
rising_same (x ∷ xs) [] up up' same = absurd (true≢false (sym (has_first x xs) ∙ same x))
rising_same (x ∷ xs) (y ∷ ys) up up' alike = elim (trichotomy x y) [
  | is_below lt ↦ absurd (true≢false (sym (has_first x xs) ∙ alike x ∙ none_below x y ys lt up'))
  | is_above lt ↦ absurd (true≢false (sym (has_first y ys) ∙ sym (alike y) ∙ none_below y x xs lt up))
  | is_same is ↦
      let up'' : is_rising_after own x ys ≡ true = subst (λ (k : List ℕ). is_rising_after own k ys ≡ true) (sym is) up' in
      ap (λ (k : List ℕ). k ∷ xs) is ∙ ap (λ (more : Texts). y ∷ more)
      (rising_same xs ys (tail_rising x xs up) (tail_rising y ys up') (λ w. rest w (cases_Bool (same_name x w)) up''
      (alike w ∙ ap (λ (k : List ℕ). same_name k w || has_key own w ys) (sym is))))
]
  where
    rest : (w : List ℕ) → (same_name x w ≡ true) ⊎ (same_name x w ≡ false) → is_rising_after own x ys ≡ true
        → (same_name x w || has_key own w xs) ≡ (same_name x w || has_key own w ys) → has_key own w xs ≡ has_key own w ys
    rest w (inl is) up'' e =
        subst (λ (k : List ℕ). has_key own k xs ≡ has_key own k ys) (same_name-is x w is) (none_again x xs up ∙ sym (none_again x ys up''))
    rest w (inr apart) up'' e = subst (λ t. (t || has_key own w xs) ≡ (t || has_key own w ys)) apart e

has-with_text : (w text : List ℕ) (texts : Texts) → has_key own w (with_text text texts) ≡ (same_name text w || has_key own w texts)
has-with_text w text texts = elim (cases_Bool (has_key own text texts)) [
  | inl there ↦ ap (λ t. has_key own w (cond t texts (insert_by own text texts))) there ∙ covered (cases_Bool (same_name text w)) there
  | inr absent ↦ ap (λ t. has_key own w (cond t texts (insert_by own text texts))) absent ∙ has-insert own w text texts
]
  where
    covered : (same_name text w ≡ true) ⊎ (same_name text w ≡ false) → has_key own text texts ≡ true → has_key own w texts ≡ (same_name text w || has_key own w texts)
    covered (inl is) there =
        subst (λ (k : List ℕ). has_key own k texts ≡ true) (same_name-is text w is) there ∙ ap (λ t. t || has_key own w texts) (sym is)
    covered (inr apart) there = ap (λ t. t || has_key own w texts) (sym apart)

-- putting texts in order keeps the members
pub has-rising_of : (w : List ℕ) (texts : Texts) → has_key own w (rising_of texts) ≡ has_key own w texts
has-rising_of w [] = refl
has-rising_of w (text ∷ texts) = has-with_text w text (rising_of texts) ∙ ap (λ t. same_name text w || t) (has-rising_of w texts)

rising-with_text : (text : List ℕ) (texts : Texts) → is_rising own texts ≡ true → is_rising own (with_text text texts) ≡ true
rising-with_text text texts up = elim (cases_Bool (has_key own text texts)) [
  | inl there ↦ ap (λ t. is_rising own (cond t texts (insert_by own text texts))) there ∙ up
  | inr absent ↦ ap (λ t. is_rising own (cond t texts (insert_by own text texts))) absent ∙ rising-insert own text texts up absent
]

-- texts that are put in order rise
pub rising-rising_of : (texts : Texts) → is_rising own (rising_of texts) ≡ true
rising-rising_of [] = refl
rising-rising_of (text ∷ texts) = rising-with_text text (rising_of texts) (rising-rising_of texts)

-- a rising list with the members of some texts is these texts in order
pub rising_of_is : (texts xs : Texts) → is_rising own xs ≡ true → ((w : List ℕ) → has_key own w xs ≡ has_key own w texts) → xs ≡ rising_of texts
rising_of_is texts xs up same = rising_same xs (rising_of texts) up (rising-rising_of texts) (λ w. same w ∙ sym (has-rising_of w texts))

twice : (a b : Bool) → (a || b) ≡ (a || (a || b))
twice true b = refl
twice false b = refl

abbrev same_texts : List ℕ → List ℕ → Bool
same_texts = pointwise nat_eq

same_texts-is : (a b : List ℕ) → same_texts a b ≡ true → a ≡ b
same_texts-is a b is = same_name-is a b (sym (texts_ties a b) ∙ is)

has-dedup_from : (w kept : List ℕ) (texts : Texts) → has_key own w (dedup_from same_texts kept texts) ≡ (same_name kept w || has_key own w texts)
has-dedup_from w kept [] = refl
has-dedup_from w kept (text ∷ texts) = elim (cases_Bool (same_texts text kept)) [
  | inl is ↦ ap (λ t. has_key own w (cond t (dedup_from same_texts kept texts) (kept ∷ dedup_from same_texts text texts))) is
      ∙ has-dedup_from w kept texts ∙ twice (same_name kept w) (has_key own w texts)
      ∙ ap (λ (k : List ℕ). same_name kept w || (same_name k w || has_key own w texts)) (sym (same_texts-is text kept is))
  | inr apart ↦ ap (λ t. has_key own w (cond t (dedup_from same_texts kept texts) (kept ∷ dedup_from same_texts text texts))) apart
      ∙ ap (λ t. same_name kept w || t) (has-dedup_from w text texts)
]

has-dedup : (w : List ℕ) (texts : Texts) → has_key own w (dedup same_texts texts) ≡ has_key own w texts
has-dedup w [] = refl
has-dedup w (text ∷ texts) = has-dedup_from w text texts

rising_from_strict : (texts : Texts) → IsStrictlySortedBy (slice_cmp nat_cmp) texts → is_rising own texts ≡ true
unfolding IsStrictlySortedBy
rising_from_strict [] up = refl
rising_from_strict (text ∷ texts) up = after text texts up.0 up.1
  where
    after : (text : List ℕ) (texts : Texts) → AllByRecursion (λ (y : List ℕ). slice_cmp nat_cmp text y ≡ Less) texts → IsStrictlySortedBy (slice_cmp nat_cmp) texts → is_rising_after own text texts ≡ true
    after text [] all up = refl
    after text (next ∷ texts) all up = ap (λ o. is_lt o && is_rising_after own next texts) all.0 ∙ after next texts up.0 up.1

-- what sorting texts and dropping those that come again gives
pub record InOrder (texts xs : Texts) : Type 0 where
  pub same : xs ≡ rising_of texts
  pub rising : is_rising own xs ≡ true
  pub members : (w : List ℕ) → has_key own w xs ≡ has_key own w texts

pub sorted_once : (texts sorted xs : Texts) → IsPermutation texts sorted → IsSorted (slice_cmp nat_cmp) sorted → IsFiltered (DiffersFromLast same_texts) [] sorted xs → InOrder texts xs
sorted_once texts sorted xs moved up once =
    let is : xs ≡ dedup same_texts sorted = dedup_is same_texts sorted xs once in
    let rising : is_rising own xs ≡ true =
    subst (λ (ys : Texts). is_rising own ys ≡ true) (sym is) (rising_from_strict _ (IsStrictlySortedBy-dedup nat_list_cmp_total texts_ties sorted up)) in
    let members : (w : List ℕ) → has_key own w xs ≡ has_key own w texts =
    λ w. ap (has_key own w) is ∙ has-dedup w sorted ∙ sym (list_any-IsPermutation (λ t. same_name t w) texts sorted moved) in
    record { same = rising_of_is texts xs rising members; rising = rising; members = members }
