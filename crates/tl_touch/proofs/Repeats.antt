-- Paths that come again.
use Rattle.std.proofs.Common.{◌≡◌, ◌<◌, ◌≤◌, ◌+◌, ◌⊎◌, ℕ, Bool, true, false, cond, ◌||◌, List, [], ◌∷◌, ◌++◌, length, take, get_or, refl, sym, ap, subst, ◌∙◌, arith, inl, inr}
use Rattle.std.specs.List.{list_any, count_by, sum_by}
use Rattle.std.specs.Str.{bytes_eq}
use Rattle.std.proofs.lemmas.Bool.{cases_Bool, true≢false}
use Rattle.std.proofs.lemmas.List.Folds.{list_any-append}
use Rattle.std.proofs.lemmas.List.Sums.{sum_by-append, sum_by-cons}
use Rattle.indexmap.specs.IndexSet.{insert_key, insert_all}
use Rattle.tl_model.specs.Volume.{same_name, same_name-is}
use Rattle.tl_entry.specs.Rising.{has_key}
use Rattle.tl_touch.proofs.Touching.{same_either, among_either, bytes_same}

abbrev Texts : Type 0
Texts = List (List ℕ)

-- some paths were seen, and those among them that came again
pub record HasSeen (done seen again : Texts) : Type 0 where
  pub keys : seen ≡ insert_all bytes_eq [] done
  pub twice : (path : List ℕ) → 2 ≤ count_by (bytes_eq path) done → has_key (λ p. p) path again ≡ true

pub seen_none : HasSeen [] [] []
seen_none = record { keys = refl; twice = λ path two. absurd (omega (arith, two)) }

add_zero : (n : ℕ) → n + 0 ≡ n
add_zero n = omega arith

or_nil : (t : Bool) → (t || false) ≡ t
or_nil true = refl
or_nil false = refl

or_assoc : (a b c : Bool) → ((a || b) || c) ≡ (a || (b || c))
or_assoc true b c = refl
or_assoc false b c = refl

or_true : (a : Bool) → (a || true) ≡ true
or_true true = refl
or_true false = refl

pub among_one : (name : List ℕ) (keys : Texts) (key : List ℕ) → list_any (bytes_eq name) (insert_key bytes_eq keys key) ≡ (list_any (bytes_eq name) keys || bytes_eq name key)
among_one name keys key = elim (cases_Bool (list_any (bytes_eq key) keys)) [
  | inl there ↦ ap (λ t. list_any (bytes_eq name) (cond t keys (keys ++ key ∷ []))) there ∙ covered there (cases_Bool (bytes_eq name key))
  | inr absent ↦ ap (λ t. list_any (bytes_eq name) (cond t keys (keys ++ key ∷ []))) absent ∙ list_any-append (bytes_eq name) keys (key ∷ [])
      ∙ ap (λ t. list_any (bytes_eq name) keys || t) (or_nil (bytes_eq name key))
]
  where
    covered : list_any (bytes_eq key) keys ≡ true → (bytes_eq name key ≡ true) ⊎ (bytes_eq name key ≡ false) → list_any (bytes_eq name) keys ≡ (list_any (bytes_eq name) keys || bytes_eq name key)
    covered there (inl is) =
        let here : list_any (bytes_eq name) keys ≡ true = subst (λ (k : List ℕ). list_any (bytes_eq k) keys ≡ true) (sym (bytes_same name key is)) there in
        here ∙ ap (λ t. t || bytes_eq name key) (sym here)
    covered there (inr apart) = sym (ap (λ t. list_any (bytes_eq name) keys || t) apart ∙ or_nil (list_any (bytes_eq name) keys))

-- what is among paths to which others were added
pub among_all : (name : List ℕ) (keys more : Texts) → list_any (bytes_eq name) (insert_all bytes_eq keys more) ≡ (list_any (bytes_eq name) keys || list_any (bytes_eq name) more)
among_all name keys [] = sym (or_nil (list_any (bytes_eq name) keys))
among_all name keys (key ∷ more) = among_all name (insert_key bytes_eq keys key) more
    ∙ ap (λ t. t || list_any (bytes_eq name) more) (among_one name keys key) ∙ or_assoc (list_any (bytes_eq name) keys) (bytes_eq name key) (list_any (bytes_eq name) more)

all_onto : (keys some more : Texts) → insert_all bytes_eq keys (some ++ more) ≡ insert_all bytes_eq (insert_all bytes_eq keys some) more
all_onto keys [] more = refl
all_onto keys (name ∷ some) more = all_onto (insert_key bytes_eq keys name) some more

-- a path that comes at all is among them
counted : (path : List ℕ) (paths : Texts) → 1 ≤ count_by (bytes_eq path) paths → list_any (bytes_eq path) paths ≡ true
counted path [] one = absurd (omega (arith, one))
counted path (other ∷ paths) one = elim (cases_Bool (bytes_eq path other)) [
  | inl is ↦ ap (λ t. t || list_any (bytes_eq path) paths) is
  | inr off ↦
      let more : 1 ≤ cond (bytes_eq path other) 1 0 + count_by (bytes_eq path) paths = subst (λ n. 1 ≤ n) (sum_by-cons (λ x. cond (bytes_eq path x) 1 0) other paths) one in
      let less : 1 ≤ count_by (bytes_eq path) paths = let m = subst (λ t. 1 ≤ cond t 1 0 + count_by (bytes_eq path) paths) off more in omega (arith, m) in
      ap (λ t. t || list_any (bytes_eq path) paths) off ∙ counted path paths less
]

has-append : (path : List ℕ) (xs ys : Texts) → has_key (λ (p : List ℕ). p) path (xs ++ ys) ≡ (has_key (λ (p : List ℕ). p) path xs || has_key (λ (p : List ℕ). p) path ys)
has-append path xs ys = list_any-append (λ p. same_name p path) xs ys

-- one more path is seen
pub seen_one : (done seen again seen' again' : Texts) (path : List ℕ) → HasSeen done seen again → seen' ≡ insert_all bytes_eq seen (path ∷ [])
    → again' ≡ again ++ cond (list_any (bytes_eq path) seen) (path ∷ []) [] → HasSeen (done ++ path ∷ []) seen' again'
seen_one done seen again seen' again' path has added pushed = record {
  keys = added ∙ ap (λ (keys : Texts). insert_all bytes_eq keys (path ∷ [])) has.keys ∙ sym (all_onto [] done (path ∷ []));
  twice = λ other two.
      let count : count_by (bytes_eq other) (done ++ path ∷ []) ≡ count_by (bytes_eq other) done + cond (bytes_eq other path) 1 0 = sum_by-append (λ x. cond (bytes_eq other x) 1 0) done (path ∷ []) ∙ ap (λ n. count_by (bytes_eq other) done + n) (sum_by-cons (λ x. cond (bytes_eq other x) 1 0) path [] ∙ add_zero (cond (bytes_eq other path) 1 0)) in
      ap (has_key (λ (p : List ℕ). p) other) pushed ∙ has-append other again (cond (list_any (bytes_eq path) seen) (path ∷ []) [])
      ∙ by other (subst (λ n. 2 ≤ n) count two) (cases_Bool (bytes_eq other path));
}
  where
    by : (other : List ℕ) → 2 ≤ count_by (bytes_eq other) done + cond (bytes_eq other path) 1 0 → (bytes_eq other path ≡ true) ⊎ (bytes_eq other path ≡ false)
        → (has_key (λ (p : List ℕ). p) other again || has_key (λ (p : List ℕ). p) other (cond (list_any (bytes_eq path) seen) (path ∷ []) [])) ≡ true
    by other two (inr off) =
        let before : 2 ≤ count_by (bytes_eq other) done = let more = subst (λ t. 2 ≤ count_by (bytes_eq other) done + cond t 1 0) off two in omega (arith, more) in
        ap (λ t. t || has_key (λ (p : List ℕ). p) other (cond (list_any (bytes_eq path) seen) (path ∷ []) [])) (has.twice other before)
    by other two (inl is) =
        let same : other ≡ path = bytes_same other path is in
        let before : 1 ≤ count_by (bytes_eq other) done = let more = subst (λ t. 2 ≤ count_by (bytes_eq other) done + cond t 1 0) is two in omega (arith, more) in
        let there : list_any (bytes_eq path) seen ≡ true =
        ap (list_any (bytes_eq path)) has.keys ∙ among_all path [] done ∙ subst (λ (p : List ℕ). list_any (bytes_eq p) done ≡ true) same (counted other done before) in
        ap (λ t. has_key (λ (p : List ℕ). p) other again || has_key (λ (p : List ℕ). p) other (cond t (path ∷ []) [])) there
        ∙ ap (λ t. has_key (λ (p : List ℕ). p) other again || t) (ap (λ t. t || false) (sym (same_either other path) ∙ is)) ∙ or_true (has_key (λ (p : List ℕ). p) other again)

-- the paths that were seen are those that came
pub seen_same : (done seen again : Texts) → HasSeen done seen again → (path : List ℕ) → has_key (λ (p : List ℕ). p) path seen ≡ has_key (λ (p : List ℕ). p) path done
seen_same done seen again has path = sym (among_either path seen) ∙ ap (list_any (bytes_eq path)) has.keys ∙ among_all path [] done ∙ among_either path done
