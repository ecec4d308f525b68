-- Whether an element passes a test: of lists that are made from others, and of texts in the order of their bytes.
use Rattle.std.proofs.Common.{◌≡◌, ◌⊎◌, ℕ, Bool, true, false, cond, ◌&&◌, ◌||◌, List, [], ◌∷◌, map, refl, sym, ap, ◌∙◌, inl, inr}
use Rattle.std.specs.Prelude.{filter, find, not, Some, is_none}
use Rattle.std.specs.List.{list_any, flat_map, AllByRecursion}
use Rattle.std.proofs.lemmas.Bool.{cases_Bool, true≢false}
use Rattle.std.proofs.lemmas.List.Folds.{list_any-append}
use Rattle.tl_model.specs.Lines.{text_of}
use Rattle.tl_model.specs.Volume.{same_name, same_name-is}
use Rattle.tl_entry.specs.Rising.{comes_before, insert_by, has_key}
use Rattle.tl_entry.specs.FilePaths.{rising_of}
use Rattle.tl_entry.proofs.SetLemmas.{rising_of_is, has-rising_of, rising-rising_of}
use Rattle.tl_report.specs.Lines.{in_order}

pub any-map : {A B : Type 0} (p : B → Bool) (f : A → B) (xs : List A) → list_any p (map f xs) ≡ list_any (λ x. p (f x)) xs
any-map p f [] = refl
any-map p f (x ∷ xs) = ap (λ t. p (f x) || t) (any-map p f xs)

pub any-filter : {A : Type 0} (p q : A → Bool) (xs : List A) → list_any p (filter q xs) ≡ list_any (λ x. q x && p x) xs
any-filter p q [] = refl
any-filter p q (x ∷ xs) = by (q x) (any-filter p q xs)
  where
    by : (t : Bool) → list_any p (filter q xs) ≡ list_any (λ x. q x && p x) xs → list_any p (cond t (x ∷ filter q xs) (filter q xs)) ≡ ((t && p x) || list_any (λ x. q x && p x) xs)
    by true more = ap (λ t. p x || t) more
    by false more = more

pub any-flat_map : {A B : Type 0} (p : B → Bool) (f : A → List B) (xs : List A) → list_any p (flat_map f xs) ≡ list_any (λ x. list_any p (f x)) xs
any-flat_map p f [] = refl
any-flat_map p f (x ∷ xs) = list_any-append p (f x) (flat_map f xs) ∙ ap (λ t. list_any p (f x) || t) (any-flat_map p f xs)

-- none is found exactly where none passes
pub none-find : {A : Type 0} (p : A → Bool) (xs : List A) → is_none (find p xs) ≡ not (list_any p xs)
none-find p [] = refl
none-find p (x ∷ xs) = by (p x) (none-find p xs)
  where
    by : (t : Bool) → is_none (find p xs) ≡ not (list_any p xs) → is_none (cond t (Some x) (find p xs)) ≡ not (t || list_any p xs)
    by true more = refl
    by false more = more

-- a filter by what a map gives
pub map-filter : {A B : Type 0} (f : A → B) (p : B → Bool) (xs : List A) → map f (filter (λ x. p (f x)) xs) ≡ filter p (map f xs)
map-filter f p [] = refl
map-filter {B = B} f p (x ∷ xs) = by (p (f x)) (map-filter f p xs)
  where
    by : (t : Bool) → map f (filter (λ x. p (f x)) xs) ≡ filter p (map f xs) → map f (cond t (x ∷ filter (λ x. p (f x)) xs) (filter (λ x. p (f x)) xs)) ≡ cond t (f x ∷ filter p (map f xs)) (filter p (map f xs))
    by true more = ap (λ (ys : List B). f x ∷ ys) more
    by false more = more

-- two tests that answer alike at each element
pub any-alike : {A : Type 0} (p q : A → Bool) (xs : List A) → AllByRecursion (λ x. p x ≡ q x) xs → list_any p xs ≡ list_any q xs
any-alike p q [] same = refl
any-alike p q (x ∷ xs) same = ap (λ t. t || list_any p xs) same.0 ∙ ap (λ t. q x || t) (any-alike p q xs same.1)

-- two tests that always answer alike
pub any-same : {A : Type 0} (p q : A → Bool) (xs : List A) → ((x : A) → p x ≡ q x) → list_any p xs ≡ list_any q xs
any-same p q [] same = refl
any-same p q (x ∷ xs) same = ap (λ t. t || list_any p xs) (same x) ∙ ap (λ t. q x || t) (any-same p q xs same)

or_comm : (a b c : Bool) → (a || (b || c)) ≡ (b || (a || c))
or_comm true true c = refl
or_comm true false c = refl
or_comm false true c = refl
or_comm false false c = refl

abbrev own : List ℕ → List ℕ
own text = text

any-insert : (p : List ℕ → Bool) (x : List ℕ) (xs : List (List ℕ)) → list_any p (insert_by own x xs) ≡ (p x || list_any p xs)
any-insert p x [] = refl
any-insert p x (y ∷ ys) = elim (cases_Bool (comes_before x y)) [
  | inl first ↦ ap (λ t. list_any p (cond t (x ∷ y ∷ ys) (y ∷ insert_by own x ys))) first
  | inr later ↦ ap (λ t. list_any p (cond t (x ∷ y ∷ ys) (y ∷ insert_by own x ys))) later ∙ ap (λ t. p y || t) (any-insert p x ys) ∙ or_comm (p y) (p x) (list_any p ys)
]

-- what is among texts adds nothing to them
covered : (p : List ℕ → Bool) (x : List ℕ) (xs : List (List ℕ)) → has_key own x xs ≡ true → list_any p xs ≡ (p x || list_any p xs)
covered p x [] there = absurd (true≢false (sym there))
covered p x (y ∷ ys) there = by (cases_Bool (same_name y x)) (covered p x ys)
  where
    twice : (a b : Bool) → (a || b) ≡ (a || (a || b))
    twice true b = refl
    twice false b = refl

    by : (same_name y x ≡ true) ⊎ (same_name y x ≡ false) → (has_key own x ys ≡ true → list_any p ys ≡ (p x || list_any p ys)) → (p y || list_any p ys) ≡ (p x || (p y || list_any p ys))
    by (inl is) more = twice (p y) (list_any p ys) ∙ ap (λ (t : List ℕ). p t || (p y || list_any p ys)) (same_name-is y x is)
    by (inr apart) more = ap (λ t. p y || t) (more (sym (ap (λ t. t || has_key own x ys) apart) ∙ there)) ∙ or_comm (p y) (p x) (list_any p ys)

-- putting texts in order keeps them
pub any-rising_of : (p : List ℕ → Bool) (xs : List (List ℕ)) → list_any p (rising_of xs) ≡ list_any p xs
any-rising_of p [] = refl
any-rising_of p (x ∷ xs) = elim (cases_Bool (has_key own x (rising_of xs))) [
  | inl there ↦ ap (λ t. list_any p (cond t (rising_of xs) (insert_by own x (rising_of xs)))) there ∙ covered p x (rising_of xs) there ∙ ap (λ t. p x || t) (any-rising_of p xs)
  | inr absent ↦ ap (λ t. list_any p (cond t (rising_of xs) (insert_by own x (rising_of xs)))) absent ∙ any-insert p x (rising_of xs) ∙ ap (λ t. p x || t) (any-rising_of p xs)
]

-- the same lines in order, as a text
pub same-in_order : (xs ys : List (List ℕ)) → ((line : List ℕ) → has_key own line xs ≡ has_key own line ys) → in_order xs ≡ in_order ys
same-in_order xs ys same = ap text_of (rising_of_is ys (rising_of xs) (rising-rising_of xs) (λ line. has-rising_of line xs ∙ same line))
