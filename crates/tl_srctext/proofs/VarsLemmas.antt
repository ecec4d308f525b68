-- Settings of variables, each name once.
use Rattle.std.proofs.Common.{◌≡◌, ℕ, Bool, true, false, cond, List, [], ◌∷◌, ◌++◌, refl, sym, ap, subst, ◌∙◌, append_assoc}
use Rattle.std.specs.Prelude.{not, fold}
use Rattle.std.specs.List.{list_all}
use Rattle.std.specs.Str.{bytes_eq}
use Rattle.std.proofs.lemmas.Bool.{and_parts, and_from, not-true}
use Rattle.std.proofs.lemmas.List.{append-nil}
use Rattle.std.proofs.lemmas.List.Folds.{list_all-append}
use Rattle.indexmap.specs.IndexMap.{insert_entry}
use Rattle.std.specs.Prelude.{All}
use Rattle.std.proofs.lemmas.List.Elements.{All-nil, All-cons, All-head, All-tail}
use Rattle.std.proofs.lemmas.Slice.Eq.{bytes_eq-Decides}
use Rattle.tl_srctext.specs.Reading.{vars_of}
use Rattle.tl_srctext.specs.Formed.{IsVar}

abbrev Settings : Type 0
Settings = List (List ℕ × List ℕ)

-- whether a name is none of those of some settings
abbrev pub is_apart : List ℕ → Settings → Bool
is_apart name vars = list_all (λ var. not (bytes_eq name var.0)) vars

-- each name is set once
abbrev pub AreOnce : Settings → Type 0
AreOnce [] = Unit {0}
AreOnce (var ∷ vars) = (list_all (λ later. not (bytes_eq later.0 var.0)) vars ≡ true) × AreOnce vars

insert_apart : (vars : Settings) (name value : List ℕ) → is_apart name vars ≡ true → insert_entry bytes_eq vars name value ≡ vars ++ (name, value) ∷ []
insert_apart [] name value is = refl
insert_apart (var ∷ vars) name value is =
    let parts = and_parts (not (bytes_eq name var.0)) (is_apart name vars) is in
    ap (λ t. cond t ((var.0, value) ∷ vars) (var ∷ insert_entry bytes_eq vars name value)) (not-true (bytes_eq name var.0) parts.0)
    ∙ ap (λ (vs : Settings). var ∷ vs) (insert_apart vars name value parts.1)

-- none of the names of later settings is one of those of earlier ones
abbrev all_apart : Settings → Settings → Bool
all_apart done vars = list_all (λ var. is_apart var.0 done) vars

apart_more : (done : Settings) (var : List ℕ × List ℕ) (vars : Settings) → all_apart done vars ≡ true → list_all (λ later. not (bytes_eq later.0 var.0)) vars ≡ true
    → all_apart (done ++ var ∷ []) vars ≡ true
apart_more done var [] here there = refl
apart_more done var (next ∷ vars) here there =
    let first = and_parts (is_apart next.0 done) (all_apart done vars) here in
    let second = and_parts (not (bytes_eq next.0 var.0)) (list_all (λ later. not (bytes_eq later.0 var.0)) vars) there in
    and_from _ _ (list_all-append (λ earlier. not (bytes_eq next.0 earlier.0)) done (var ∷ []) ∙ and_from _ _ first.0 (and_from _ _ second.0 refl)) (apart_more done var vars first.1 second.1)

fold_apart : (done vars : Settings) → all_apart done vars ≡ true → AreOnce vars → fold (λ vs var. insert_entry bytes_eq vs var.0 var.1) done vars ≡ done ++ vars
fold_apart done [] apart once = sym (append-nil done)
fold_apart done (var ∷ vars) apart once =
    let parts = and_parts (is_apart var.0 done) (all_apart done vars) apart in
    ap (λ (vs : Settings). fold (λ vs var. insert_entry bytes_eq vs var.0 var.1) vs vars) (insert_apart done var.0 var.1 parts.0)
    ∙ fold_apart (done ++ var ∷ []) vars (apart_more done var vars parts.1 once.0) once.1
    ∙ append_assoc done (var ∷ []) vars

nothing_apart : (vars : Settings) → all_apart [] vars ≡ true
nothing_apart [] = refl
nothing_apart (var ∷ vars) = nothing_apart vars

-- settings of each name once are what they set
pub vars_of-once : (vars : Settings) → AreOnce vars → vars_of vars ≡ vars
vars_of-once vars once = fold_apart [] vars (nothing_apart vars) once

keys_all : (p : List ℕ → Bool) (vars : Settings) (name value : List ℕ) → list_all (λ var. p var.0) vars ≡ true → p name ≡ true → list_all (λ var. p var.0) (insert_entry bytes_eq vars name value) ≡ true
keys_all p [] name value all is = and_from _ _ is refl
keys_all p (var ∷ vars) name value all is =
    by (λ each. keys_all p vars name value each is) (bytes_eq name var.0)
  where
    by : (list_all (λ var. p var.0) vars ≡ true → list_all (λ var. p var.0) (insert_entry bytes_eq vars name value) ≡ true)
        → (t : Bool) → list_all (λ var. p var.0) (cond t ((var.0, value) ∷ vars) (var ∷ insert_entry bytes_eq vars name value)) ≡ true
    by more true = all
    by more false = let parts = and_parts (p var.0) (list_all (λ var. p var.0) vars) all in and_from _ _ parts.0 (more parts.1)

-- a setting more leaves each name once
pub AreOnce-insert : (vars : Settings) (name value : List ℕ) → AreOnce vars → AreOnce (insert_entry bytes_eq vars name value)
AreOnce-insert [] name value once = (refl, tt)
AreOnce-insert (var ∷ vars) name value once = by (AreOnce-insert vars name value once.1) (bytes_eq name var.0) refl
  where
    by : AreOnce (insert_entry bytes_eq vars name value) → (t : Bool) → bytes_eq name var.0 ≡ t → AreOnce (cond t ((var.0, value) ∷ vars) (var ∷ insert_entry bytes_eq vars name value))
    by more true e = once
    by more false e = (keys_all (λ later. not (bytes_eq later var.0)) vars name value once.0 (ap not e), more)

-- a setting more that has its form leaves each such
pub AreVars-insert : (vars : Settings) (name value : List ℕ) → All IsVar vars → IsVar (name, value) → All IsVar (insert_entry bytes_eq vars name value)
AreVars-insert [] name value each is = All-cons IsVar (name, value) [] is (All-nil IsVar)
AreVars-insert (var ∷ vars) name value each is =
    by (AreVars-insert vars name value (All-tail IsVar var vars each) is) (bytes_eq name var.0) refl
  where
    by : All IsVar (insert_entry bytes_eq vars name value) → (t : Bool) → bytes_eq name var.0 ≡ t → All IsVar (cond t ((var.0, value) ∷ vars) (var ∷ insert_entry bytes_eq vars name value))
    by more true e = All-cons IsVar (var.0, value) vars (subst (λ (n : List ℕ). IsVar (n, value)) ((bytes_eq-Decides name var.0).0 e) is) (All-tail IsVar var vars each)
    by more false e = All-cons IsVar var (insert_entry bytes_eq vars name value) (All-head IsVar var vars each) more
