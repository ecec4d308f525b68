-- Names that are gathered one after the other, by the tests that find them.
use Rattle.std.proofs.Common.{◌≡◌, ◌⊎◌, ℕ, Bool, true, false, cond, not, ◌||◌, ◌&&◌, List, [], ◌∷◌, ◌++◌, Option, Some, refl, sym, ap, subst, ◌∙◌, inl, inr}
use Rattle.std.specs.Prelude.{nat_eq, find, filter, is_some, option_map, Result, Ok, Err, IfOk, OnOk}
use Rattle.std.specs.List.{list_any, flat_map, IsDistinct}
use Rattle.std.specs.Str.{bytes_eq}
use Rattle.std.specs.Cmp.Lexicographic.{texts_ties, nat_list_eq_equiv}
use Rattle.std.proofs.lemmas.Bool.{cases_Bool, true≢false, false≢true}
use Rattle.std.proofs.lemmas.List.Folds.{list_any-append}
use Rattle.std.proofs.lemmas.Map.Keys.{IsDistinct-push}
use Rattle.indexmap.specs.IndexSet.{insert_key, insert_all}
use Rattle.tl_model.specs.Volume.{same_name, same_name-is, same_name-refl}
use Rattle.tl_entry.specs.Rising.{has_key}

abbrev Texts : Type 0
Texts = List (List ℕ)

-- two texts are the same by either test
pub same_either : (a b : List ℕ) → bytes_eq a b ≡ same_name b a
same_either a b = texts_ties a b ∙ flipped
  where
    flipped : same_name a b ≡ same_name b a
    flipped = elim (cases_Bool (same_name a b)) [
      | inl is ↦ subst (λ (c : List ℕ). same_name a c ≡ same_name c a) (same_name-is a b is) refl
      | inr apart ↦ elim (cases_Bool (same_name b a)) [
        | inl is ↦ subst (λ (c : List ℕ). same_name c b ≡ same_name b c) (same_name-is b a is) refl
        | inr apart' ↦ apart ∙ sym apart'
      ]
    ]

bytes_same : (a b : List ℕ) → bytes_eq a b ≡ true → a ≡ b
bytes_same a b is = same_name-is a b (sym (texts_ties a b) ∙ is)

-- tests that agree at each element find alike
pub any_alike : {A : Type 0} (p q : A → Bool) (xs : List A) → ((x : A) → p x ≡ q x) → list_any p xs ≡ list_any q xs
any_alike p q [] alike = refl
any_alike p q (x ∷ xs) alike = ap (λ t. t || list_any p xs) (alike x) ∙ ap (λ t. q x || t) (any_alike p q xs alike)

pub find_alike : {A : Type 0} (p q : A → Bool) (xs : List A) → ((x : A) → p x ≡ q x) → find p xs ≡ find q xs
find_alike p q [] alike = refl
find_alike {A} p q (x ∷ xs) alike = ap (λ t. cond t (Some x) (find p xs)) (alike x) ∙ ap (λ (o : Option A). cond (q x) (Some x) o) (find_alike p q xs alike)

pub filter_alike : {A : Type 0} (p q : A → Bool) (xs : List A) → ((x : A) → p x ≡ q x) → filter p xs ≡ filter q xs
filter_alike p q [] alike = refl
filter_alike {A} p q (x ∷ xs) alike = ap (λ t. cond t (x ∷ filter p xs) (filter p xs)) (alike x) ∙ ap (λ (ys : List A). cond (q x) (x ∷ ys) ys) (filter_alike p q xs alike)

-- something is found where an element passes
pub found_any : {A B : Type 0} (f : A → B) (p : A → Bool) (xs : List A) → is_some (option_map f (find p xs)) ≡ list_any p xs
found_any f p [] = refl
found_any {A} {B} f p (x ∷ xs) = elim (cases_Bool (p x)) [
  | inl is ↦ ap (λ t. is_some (option_map f (cond t (Some x) (find p xs)))) is ∙ ap (λ t. t || list_any p xs) (sym is)
  | inr none ↦ ap (λ t. is_some (option_map f (cond t (Some x) (find p xs)))) none ∙ found_any f p xs ∙ ap (λ t. t || list_any p xs) (sym none)
]

-- what lists of lists have
pub any_flat : {A B : Type 0} (p : B → Bool) (f : A → List B) (xs : List A) → list_any p (flat_map f xs) ≡ list_any (λ x. list_any p (f x)) xs
any_flat p f [] = refl
any_flat p f (x ∷ xs) = list_any-append p (f x) (flat_map f xs) ∙ ap (λ t. list_any p (f x) || t) (any_flat p f xs)

-- a text among others by either test
pub among_either : (name : List ℕ) (names : Texts) → list_any (bytes_eq name) names ≡ has_key (λ n. n) name names
among_either name names = any_alike (bytes_eq name) (λ n. same_name n name) names (λ n. same_either name n)

or_nil : (t : Bool) → (t || false) ≡ t
or_nil true = refl
or_nil false = refl

or_assoc : (a b c : Bool) → ((a || b) || c) ≡ (a || (b || c))
or_assoc true b c = refl
or_assoc false b c = refl

pub among_one : (name : List ℕ) (keys : Texts) (key : List ℕ) → list_any (bytes_eq name) (insert_key bytes_eq keys key) ≡ (list_any (bytes_eq name) keys || bytes_eq name key)
among_one name keys key = elim (cases_Bool (list_any (bytes_eq key) keys)) [
  | inl there ↦ ap (λ t. list_any (bytes_eq name) (cond t keys (keys ++ key ∷ []))) there ∙ covered there (cases_Bool (bytes_eq name key))
  | inr absent ↦ ap (λ t. list_any (bytes_eq name) (cond t keys (keys ++ key ∷ []))) absent ∙ list_any-append (bytes_eq name) keys (key ∷ [])
      ∙ ap (λ t. list_any (bytes_eq name) keys || t) (or_nil (bytes_eq name key))
]
  where
    covered : list_any (bytes_eq key) keys ≡ true → (bytes_eq name key ≡ true) ⊎ (bytes_eq name key ≡ false) → list_any (bytes_eq name) keys ≡ (list_any (bytes_eq name) keys || bytes_eq name key)
    covered there (inl is) =
        let here : list_any (bytes_eq name) keys ≡ true = subst (λ (k : List ℕ). list_any (bytes_eq k) keys ≡ true) (sym (bytes_same name key is)) there in
        here ∙ ap (λ t. t || bytes_eq name key) (sym here)
    covered there (inr apart) = sym (ap (λ t. list_any (bytes_eq name) keys || t) apart ∙ or_nil (list_any (bytes_eq name) keys))

-- what is among names to which others were added
pub among_all : (name : List ℕ) (keys more : Texts) → list_any (bytes_eq name) (insert_all bytes_eq keys more) ≡ (list_any (bytes_eq name) keys || list_any (bytes_eq name) more)
among_all name keys [] = sym (or_nil (list_any (bytes_eq name) keys))
among_all name keys (key ∷ more) = among_all name (insert_key bytes_eq keys key) more
    ∙ ap (λ t. t || list_any (bytes_eq name) more) (among_one name keys key) ∙ or_assoc (list_any (bytes_eq name) keys) (bytes_eq name key) (list_any (bytes_eq name) more)

distinct_one : (keys : Texts) (key : List ℕ) → IsDistinct bytes_eq keys → IsDistinct bytes_eq (insert_key bytes_eq keys key)
distinct_one keys key is = elim (cases_Bool (list_any (bytes_eq key) keys)) [
  | inl there ↦ subst (λ t. IsDistinct bytes_eq (cond t keys (keys ++ key ∷ []))) (sym there) is
  | inr absent ↦ subst (λ t. IsDistinct bytes_eq (cond t keys (keys ++ key ∷ []))) (sym absent) (IsDistinct-push nat_list_eq_equiv keys key is absent)
]

-- names that are added each once differ
pub distinct_all : (keys more : Texts) → IsDistinct bytes_eq keys → IsDistinct bytes_eq (insert_all bytes_eq keys more)
distinct_all keys [] is = is
distinct_all keys (key ∷ more) is = distinct_all (insert_key bytes_eq keys key) more (distinct_one keys key is)

-- names that are added one after the other
pub all_onto : (keys some more : Texts) → insert_all bytes_eq keys (some ++ more) ≡ insert_all bytes_eq (insert_all bytes_eq keys some) more
all_onto keys [] more = refl
all_onto keys (name ∷ some) more = all_onto (insert_key bytes_eq keys name) some more

-- what follows from what holds of an answer
pub ok_weaker : {T E : Type 0} (r : Result T E) (P Q : T → Type 0) → ((t : T) → P t → Q t) → IfOk r P → IfOk r Q
ok_weaker (Ok t) P Q weaker is = weaker t is
ok_weaker (Err e) P Q weaker is = tt

pub on_ok_weaker : {T E : Type 0} (r : Result T E) (P Q : Type 0) → (P → Q) → OnOk r P → OnOk r Q
on_ok_weaker (Ok t) P Q weaker is = weaker is
on_ok_weaker (Err e) P Q weaker is = tt
