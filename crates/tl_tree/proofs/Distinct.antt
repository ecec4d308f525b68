-- Names that come once.
use Rattle.std.proofs.Common.{◌≡◌, ℕ, true, false, ◌||◌, List, [], ◌∷◌, ◌++◌, refl, sym, ◌∙◌, ap, subst, inl, inr}
use Rattle.std.specs.List.{flat_map, AllByRecursion, IsDistinct}
use Rattle.std.proofs.lemmas.Bool.{cases_Bool, true≢false, false_from_ne_true, or_parts, or_right}
use Rattle.std.proofs.lemmas.List.{map-append}
use Rattle.std.proofs.lemmas.List.Folds.{list_any-append}
use Rattle.tl_model.specs.Volume.{Name, same_name, same_name-is, same_name-refl}
use Rattle.tl_tree.specs.Staged.{has_name}
use Rattle.tl_tree.specs.Changes.{names_of}

-- each name comes once
abbrev pub AreOnce : List Name → Type 0
AreOnce names = IsDistinct same_name names

pub has_name-append : (name : Name) (xs ys : List Name) → has_name name (xs ++ ys) ≡ (has_name name xs || has_name name ys)
has_name-append name xs ys = list_any-append (λ (n : Name). same_name name n) xs ys

-- a name that isn't in two lists isn't in their join
pub neither_has : (name : Name) (xs ys : List Name) → has_name name xs ≡ false → has_name name ys ≡ false → has_name name (xs ++ ys) ≡ false
neither_has name xs ys far near = has_name-append name xs ys ∙ ap (λ b. b || has_name name ys) far ∙ near

pub has_left : (name : Name) (xs ys : List Name) → has_name name xs ≡ true → has_name name (xs ++ ys) ≡ true
has_left name xs ys here = has_name-append name xs ys ∙ ap (λ b. b || has_name name ys) here

pub has_right : (name : Name) (xs ys : List Name) → has_name name ys ≡ true → has_name name (xs ++ ys) ≡ true
has_right name xs ys here = has_name-append name xs ys ∙ or_right (has_name name xs) (has_name name ys) here

-- a name in the join of two lists is in one of them
pub has_either : {G : Type 0} → (name : Name) (xs ys : List Name) → (has_name name xs ≡ true → G) → (has_name name ys ≡ true → G) → has_name name (xs ++ ys) ≡ true → G
has_either name xs ys left right here = elim (cases_Bool (has_name name xs)) [
  | inl e ↦ left e
  | inr e ↦ right (sym (ap (λ b. b || has_name name ys) e) ∙ sym (has_name-append name xs ys) ∙ here)
]

-- what holds of each name of a list holds of one that is in it
pub all_of : (P : Name → Type 0) (names : List Name) (name : Name) → AllByRecursion P names → has_name name names ≡ true → P name
all_of P [] name all here = absurd (cc)
all_of P (n ∷ names) name all here = elim (cases_Bool (same_name name n)) [
  | inl e ↦ subst P (sym (same_name-is name n e)) all.0
  | inr e ↦ all_of P names name all.1 (sym (ap (λ b. b || has_name name names) e) ∙ here)
]

-- a name that all of a list are told from is not in it
none_of : (name : Name) (names : List Name) → AllByRecursion (λ n. same_name name n ≡ false) names → has_name name names ≡ false
none_of name [] all = refl
none_of name (n ∷ names) all = ap (λ b. b || has_name name names) all.0 ∙ none_of name names all.1

none_from : (name : Name) (names : List Name) → has_name name names ≡ false → AllByRecursion (λ n. same_name name n ≡ false) names
none_from name [] none = tt
none_from name (n ∷ names) none = let both = or_parts (same_name name n) (has_name name names) none in (both.0, none_from name names both.1)

pub all_left : (P : Name → Type 0) (xs ys : List Name) → AllByRecursion P (xs ++ ys) → AllByRecursion P xs
all_left P [] ys all = tt
all_left P (x ∷ xs) ys all = (all.0, all_left P xs ys all.1)

pub all_right : (P : Name → Type 0) (xs ys : List Name) → AllByRecursion P (xs ++ ys) → AllByRecursion P ys
all_right P [] ys all = all
all_right P (x ∷ xs) ys all = all_right P xs ys all.1

all_join : (P : Name → Type 0) (xs ys : List Name) → AllByRecursion P xs → AllByRecursion P ys → AllByRecursion P (xs ++ ys)
all_join P [] ys far near = near
all_join P (x ∷ xs) ys far near = (far.0, all_join P xs ys far.1 near)

-- ---- names that come once

pub once-nil : AreOnce []
unfolding IsDistinct
once-nil = tt

pub once-head : (name : Name) (names : List Name) → AreOnce (name ∷ names) → has_name name names ≡ false
unfolding IsDistinct
once-head name names once = none_of name names once.0

pub once-tail : (name : Name) (names : List Name) → AreOnce (name ∷ names) → AreOnce names
unfolding IsDistinct
once-tail name names once = once.1

pub once-cons : (name : Name) (names : List Name) → has_name name names ≡ false → AreOnce names → AreOnce (name ∷ names)
unfolding IsDistinct
once-cons name names none once = (none_from name names none, once)

pub once-left : (xs ys : List Name) → AreOnce (xs ++ ys) → AreOnce xs
once-left [] ys once = once-nil
once-left (x ∷ xs) ys once =
    once-cons x xs (or_parts (has_name x xs) (has_name x ys) (sym (has_name-append x xs ys) ∙ once-head x (xs ++ ys) once)).0 (once-left xs ys (once-tail x (xs ++ ys) once))

pub once-right : (xs ys : List Name) → AreOnce (xs ++ ys) → AreOnce ys
once-right [] ys once = once
once-right (x ∷ xs) ys once = once-right xs ys (once-tail x (xs ++ ys) once)

-- no name is in both halves
pub once-cross : (xs ys : List Name) → AreOnce (xs ++ ys) → (name : Name) → has_name name xs ≡ true → has_name name ys ≡ false
once-cross [] ys once name here = absurd (cc)
once-cross (x ∷ xs) ys once name here = elim (cases_Bool (same_name name x)) [
  | inl e ↦ ap (λ (n : Name). has_name n ys) (same_name-is name x e) ∙ (or_parts (has_name x xs) (has_name x ys) (sym (has_name-append x xs ys) ∙ once-head x (xs ++ ys) once)).1
  | inr e ↦ once-cross xs ys (once-tail x (xs ++ ys) once) name (sym (ap (λ b. b || has_name name xs) e) ∙ here)
]

pub once-append : (xs ys : List Name) → AreOnce xs → AreOnce ys → ((name : Name) → has_name name xs ≡ true → has_name name ys ≡ false) → AreOnce (xs ++ ys)
once-append [] ys far near cross = near
once-append (x ∷ xs) ys far near cross =
    once-cons x (xs ++ ys) (neither_has x xs ys (once-head x xs far) (cross x (ap (λ b. b || has_name x xs) (same_name-refl x))))
    (once-append xs ys (once-tail x xs far) near (λ name here. cross name (or_right (same_name name x) (has_name name xs) here)))

-- ---- parts of lists

-- names of one list that come once where those of another do, and are among them
pub record IsPart (xs ys : List Name) : Type 0 where
  pub once : AreOnce ys → AreOnce xs
  pub among : (name : Name) → has_name name xs ≡ true → has_name name ys ≡ true

pub part-same : (xs : List Name) → IsPart xs xs
part-same xs = record { once = λ once. once; among = λ name here. here }

pub part-nil : (ys : List Name) → IsPart [] ys
part-nil ys = record { once = λ once. once-nil; among = λ name here. absurd (cc) }

-- what isn't in the whole isn't in the part
pub part-none : (xs ys : List Name) → IsPart xs ys → (name : Name) → has_name name ys ≡ false → has_name name xs ≡ false
part-none xs ys part name none = false_from_ne_true _ (λ here. true≢false (sym (part.among name here) ∙ none))

pub part-append : (xs ys us vs : List Name) → IsPart xs us → IsPart ys vs → IsPart (xs ++ ys) (us ++ vs)
part-append xs ys us vs far near = record {
  once = λ once. once-append xs ys (far.once (once-left us vs once)) (near.once (once-right us vs once))
      (λ name here. part-none ys vs near name (once-cross us vs once name (far.among name here)));
  among = λ name here. has_either name xs ys (λ e. has_left name us vs (far.among name e)) (λ e. has_right name us vs (near.among name e)) here;
}

pub part-flat : {X : Type 0} (f g : X → List Name) → ((x : X) → IsPart (f x) (g x)) → (xs : List X) → IsPart (flat_map f xs) (flat_map g xs)
part-flat f g each [] = part-nil []
part-flat f g each (x ∷ xs) = part-append (f x) (flat_map f xs) (g x) (flat_map g xs) (each x) (part-flat f g each xs)

-- the names of files that come from several places
pub names_of-flat : {X : Type 0} (f : X → List (Name × List ℕ)) → (xs : List X) → names_of (flat_map f xs) ≡ flat_map (λ x. names_of (f x)) xs
names_of-flat f [] = refl
names_of-flat f (x ∷ xs) = map-append (λ (file : Name × List ℕ). file.0) (f x) (flat_map f xs) ∙ ap (λ (l : List Name). names_of (f x) ++ l) (names_of-flat f xs)
