-- The entries of a view, put in one by one.
use Rattle.std.proofs.Common.{◌≡◌, ◌⊎◌, ℕ, ◌+◌, ◌||◌, not, Bool, true, false, cond, List, [], ◌∷◌, ◌++◌, Option, Some, None, refl, sym, ap, subst, ◌∙◌, inl, inr}
use Rattle.std.specs.Prelude.{option_map, slice_get}
use Rattle.std.specs.List.{list_any, filter_map, cons_option}
use Rattle.std.specs.Str.{bytes_eq}
use Rattle.std.proofs.lemmas.Bool.{cases_Bool, or_parts, or_from, true≢false}
use Rattle.std.proofs.lemmas.List.Folds.{list_any-append}
use Rattle.tl_model.specs.Volume.{same_name, same_name-is}
use Rattle.tl_entry.specs.declared.object.Object.{Object}
use Rattle.tl_entry.specs.Rising.{comes_before, insert_by, has_key}
use Rattle.tl_db.specs.declared.repo.Repo.{Repo}
use Rattle.tl_db.specs.Entries.{entry_of, others}
use Rattle.tl_pin.specs.declared.line.PinLine.{PinLine}
use Rattle.tl_pin.specs.Candidates.{entry_under, offer, main_pin, candidate_of, entry_or, view_entry, is_known}

abbrev Text : Type 0
Text = List ℕ

abbrev named : Text → Object → Bool
named name o = same_name o.name name

-- an entry that went in among others is found by its name, and all others as before
found_insert : (x : Object) (ys : List Object) (n : Text) → has_key (λ (o : Object). o.name) x.name ys ≡ false
    → entry_of n (insert_by (λ (o : Object). o.name) x ys) ≡ cond (named n x) (Some x) (entry_of n ys)
found_insert x [] n none = refl
found_insert x (y ∷ ys) n none =
    let parts = or_parts (named x.name y) _ none in
    at (cases_Bool (comes_before x.name y.name)) parts.0 (found_insert x ys n parts.1)
  where
    turned : (a b : Bool) (rest : Option Object) → (a ≡ true → b ≡ true → ⊥) → cond b (Some y) (cond a (Some x) rest) ≡ cond a (Some x) (cond b (Some y) rest)
    turned true true rest apart = absurd (apart refl refl)
    turned true false rest apart = refl
    turned false true rest apart = refl
    turned false false rest apart = refl

    at : (comes_before x.name y.name ≡ true) ⊎ (comes_before x.name y.name ≡ false) → named x.name y ≡ false
        → entry_of n (insert_by (λ (o : Object). o.name) x ys) ≡ cond (named n x) (Some x) (entry_of n ys)
        → entry_of n (insert_by (λ (o : Object). o.name) x (y ∷ ys)) ≡ cond (named n x) (Some x) (entry_of n (y ∷ ys))
    at (inl first) apart deeper = ap (λ t. entry_of n (cond t (x ∷ y ∷ ys) (y ∷ insert_by (λ (o : Object). o.name) x ys))) first
    at (inr later) apart deeper =
        ap (λ t. entry_of n (cond t (x ∷ y ∷ ys) (y ∷ insert_by (λ (o : Object). o.name) x ys))) later
        ∙ ap (λ (o : Option Object). cond (named n y) (Some y) o) deeper
        ∙ turned (named n x) (named n y) (entry_of n ys) (λ is is'.
        true≢false (sym (subst (λ (m : Text). same_name y.name m ≡ true) (sym (same_name-is x.name n is)) is') ∙ apart))

gone : (wanted : Text) (xs : List Object) → has_key (λ (o : Object). o.name) wanted (others wanted xs) ≡ false
gone wanted [] = refl
gone wanted (x ∷ xs) = by (named wanted x) refl (gone wanted xs)
  where
    by : (t : Bool) → named wanted x ≡ t → has_key (λ (o : Object). o.name) wanted (others wanted xs) ≡ false
        → has_key (λ (o : Object). o.name) wanted (cond (not t) (x ∷ others wanted xs) (others wanted xs)) ≡ false
    by true is rest = rest
    by false is rest = or_from _ _ is rest

found_others : (wanted n : Text) (xs : List Object) → same_name wanted n ≡ false → entry_of n (others wanted xs) ≡ entry_of n xs
found_others wanted n [] apart = refl
found_others wanted n (x ∷ xs) apart = by (cases_Bool (named wanted x)) (found_others wanted n xs apart)
  where
    by : (named wanted x ≡ true) ⊎ (named wanted x ≡ false) → entry_of n (others wanted xs) ≡ entry_of n xs → entry_of n (others wanted (x ∷ xs)) ≡ entry_of n (x ∷ xs)
    by (inl is) rest =
        let other : named n x ≡ false = ap (λ (m : Text). same_name m n) (same_name-is x.name wanted is) ∙ apart in
        ap (λ t. entry_of n (cond (not t) (x ∷ others wanted xs) (others wanted xs))) is ∙ rest ∙ sym (ap (λ t. cond t (Some x) (entry_of n xs)) other)
    by (inr is) rest =
        ap (λ t. entry_of n (cond (not t) (x ∷ others wanted xs) (others wanted xs))) is ∙ ap (λ (o : Option Object). cond (named n x) (Some x) o) rest

-- what is found once an entry was put in the place of the one with its name
put_found : (x : Object) (xs : List Object) (n : Text) → entry_of n (insert_by (λ (o : Object). o.name) x (others x.name xs)) ≡ cond (named n x) (Some x) (entry_of n xs)
put_found x xs n = found_insert x (others x.name xs) n (gone x.name xs) ∙ by (cases_Bool (named n x))
  where
    by : (named n x ≡ true) ⊎ (named n x ≡ false) → cond (named n x) (Some x) (entry_of n (others x.name xs)) ≡ cond (named n x) (Some x) (entry_of n xs)
    by (inl is) = ap (λ t. cond t (Some x) (entry_of n (others x.name xs))) is ∙ sym (ap (λ t. cond t (Some x) (entry_of n xs)) is)
    by (inr is) = ap (λ (o : Option Object). cond (named n x) (Some x) o) (found_others x.name n xs is)

entry_none : (n : Text) (xs : List Object) → has_key (λ (o : Object). o.name) n xs ≡ false → entry_of n xs ≡ None
entry_none n [] none = refl
entry_none n (x ∷ xs) none = let parts = or_parts (named n x) _ none in ap (λ t. cond t (Some x) (entry_of n xs)) parts.0 ∙ entry_none n xs parts.1

entry_name : (n : Text) (xs : List Object) (x : Object) → entry_of n xs ≡ Some x → x.name ≡ n
entry_name n [] x is = absurd (cc)
entry_name n (y ∷ ys) x is = by (cases_Bool (named n y)) (entry_name n ys x)
  where
    by : (named n y ≡ true) ⊎ (named n y ≡ false) → (entry_of n ys ≡ Some x → x.name ≡ n) → x.name ≡ n
    by (inl here) deeper =
        let same : Some y ≡ Some x = sym (ap (λ t. cond t (Some y) (entry_of n ys)) here) ∙ is in
        let one : y ≡ x = cc in
        ap (λ (o : Object). o.name) (sym one) ∙ same_name-is y.name n here
    by (inr other) deeper = deeper (sym (ap (λ t. cond t (Some y) (entry_of n ys)) other) ∙ is)

abbrev has_entry : Text → Repo → Bool
has_entry name repo = has_key (λ (o : Object). o.name) name repo.db

under_none : (before : ℕ) (repos : List Repo) (tag name : Text) → list_any (has_entry name) repos ≡ false → entry_under before repos tag name ≡ None
under_none before [] tag name none = refl
under_none before (repo ∷ repos) tag name none =
    let parts = or_parts (has_entry name repo) _ none in
    by (bytes_eq repo.tag tag) (entry_none name repo.db parts.0) (under_none (before + 1) repos tag name parts.1)
  where
    by : (t : Bool) → entry_of name repo.db ≡ None → entry_under (before + 1) repos tag name ≡ None
        → cond t (option_map (λ (e : Object). (before, e)) (entry_of name repo.db)) (entry_under (before + 1) repos tag name) ≡ None
    by true is rest = ap (option_map (λ (e : Object). (before, e))) is
    by false is rest = rest

offers_none : (pins : List PinLine) (repos : List Repo) (name : Text) → list_any (has_entry name) repos ≡ false → filter_map (offer repos name) pins ≡ []
offers_none [] repos name none = refl
offers_none (pin ∷ pins) repos name none =
    ap (λ (o : Option (ℕ × Object)). cons_option o (filter_map (offer repos name) pins)) (by _ (under_none 0 repos pin.tag name none)) ∙ offers_none pins repos name none
  where
    by : (t : Bool) → entry_under 0 repos pin.tag name ≡ None → cond t (entry_under 0 repos pin.tag name) None ≡ None
    by true is = is
    by false is = refl

-- a name that no repository and no tree has has no entry in the view
view_none : (pins : List PinLine) (repos : List Repo) (installed : List Object) (name : Text) → is_known repos installed name ≡ false → view_entry pins repos installed name ≡ None
view_none pins repos installed name none =
    let parts = or_parts (list_any (has_entry name) repos) _ none in
    ap (λ (os : List (ℕ × Object)). entry_or (slice_get os 0) (entry_of name installed)) (offers_none (pins ++ main_pin ∷ []) repos name parts.0)
    ∙ entry_none name installed parts.1

pair_name : (name : Text) (before : ℕ) (o : Option Object) (c : ℕ × Object) → option_map (λ (e : Object). (before, e)) o ≡ Some c → ((x : Object) → o ≡ Some x → x.name ≡ name) → c.1.name ≡ name
pair_name name before None c is named = absurd (cc)
pair_name name before (Some x) c is named = let one : (before, x) ≡ c = cc in ap (λ (d : ℕ × Object). d.1.name) (sym one) ∙ named x refl

under_name : (before : ℕ) (repos : List Repo) (tag name : Text) (c : ℕ × Object) → entry_under before repos tag name ≡ Some c → c.1.name ≡ name
under_name before [] tag name c is = absurd (cc)
under_name before (repo ∷ repos) tag name c is = by (bytes_eq repo.tag tag) is (under_name (before + 1) repos tag name c)
  where
    by : (t : Bool) → cond t (option_map (λ (e : Object). (before, e)) (entry_of name repo.db)) (entry_under (before + 1) repos tag name) ≡ Some c
        → (entry_under (before + 1) repos tag name ≡ Some c → c.1.name ≡ name) → c.1.name ≡ name
    by true is deeper = pair_name name before (entry_of name repo.db) c is (entry_name name repo.db)
    by false is deeper = deeper is

offer_name : (pins : List PinLine) (repos : List Repo) (name : Text) (c : ℕ × Object) → slice_get (filter_map (offer repos name) pins) 0 ≡ Some c → c.1.name ≡ name
offer_name [] repos name c is = absurd (cc)
offer_name (pin ∷ pins) repos name c is = by (offer repos name pin) refl is (offer_name pins repos name c)
  where
    own : (t : Bool) (d : ℕ × Object) → cond t (entry_under 0 repos pin.tag name) None ≡ Some d → d.1.name ≡ name
    own true d is = under_name 0 repos pin.tag name d is
    own false d is = absurd (cc)

    by : (o : Option (ℕ × Object)) → offer repos name pin ≡ o → slice_get (cons_option o (filter_map (offer repos name) pins)) 0 ≡ Some c
        → (slice_get (filter_map (offer repos name) pins) 0 ≡ Some c → c.1.name ≡ name) → c.1.name ≡ name
    by None e is deeper = deeper is
    by (Some d) e is deeper = let one : d ≡ c = cc in ap (λ (x : ℕ × Object). x.1.name) (sym one) ∙ own _ d e

-- the entry of a name in the view has that name
view_name : (pins : List PinLine) (repos : List Repo) (installed : List Object) (name : Text) (x : Object) → view_entry pins repos installed name ≡ Some x → x.name ≡ name
view_name pins repos installed name x is = by (candidate_of pins repos name) refl is
  where
    by : (o : Option (ℕ × Object)) → candidate_of pins repos name ≡ o → entry_or o (entry_of name installed) ≡ Some x → x.name ≡ name
    by None e is = entry_name name installed x is
    by (Some c) e is = let one : c.1 ≡ x = cc in ap (λ (o : Object). o.name) (sym one) ∙ offer_name (pins ++ main_pin ∷ []) repos name c e

-- whether a name is among some
abbrev pub has_name : Text → List Text → Bool
has_name name names = has_key (λ (n : Text). n) name names

-- the view so far: the entries of these names
abbrev pub IsViewOf : List PinLine → List Repo → List Object → List Text → List Object → Type 0
IsViewOf pins repos installed names view = (n : Text) → entry_of n view ≡ cond (has_name n names) (view_entry pins repos installed n) None

has-push : (n m : Text) (names : List Text) → has_name n (names ++ m ∷ []) ≡ (has_name n names || same_name m n)
has-push n m names = list_any-append (λ (k : Text). same_name k n) names (m ∷ []) ∙ ap (λ t. has_name n names || t) (or_false (same_name m n))
  where
    or_false : (b : Bool) → (b || false) ≡ b
    or_false true = refl
    or_false false = refl

or_last : (a : Bool) → (a || true) ≡ true
or_last true = refl
or_last false = refl

or_none : (a : Bool) → (a || false) ≡ a
or_none true = refl
or_none false = refl

cond_same : (a : Bool) (x : Option Object) → x ≡ None → cond a x None ≡ None
cond_same true x is = is
cond_same false x is = refl

-- a name with an entry
pub view_more : (pins : List PinLine) (repos : List Repo) (installed : List Object) (names : List Text) (view after : List Object) (m : Text) (x : Object)
    → view_entry pins repos installed m ≡ Some x → after ≡ insert_by (λ (o : Object). o.name) x (others x.name view)
    → IsViewOf pins repos installed names view → IsViewOf pins repos installed (names ++ m ∷ []) after
view_more pins repos installed names view after m x is put so_far n =
    ap (entry_of n) put ∙ put_found x view n ∙ ap (λ (k : Text). cond (same_name k n) (Some x) (entry_of n view)) (view_name pins repos installed m x is)
    ∙ by (cases_Bool (same_name m n)) ∙ sym (ap (λ t. cond t (view_entry pins repos installed n) None) (has-push n m names))
  where
    by : (same_name m n ≡ true) ⊎ (same_name m n ≡ false) → cond (same_name m n) (Some x) (entry_of n view) ≡ cond (has_name n names || same_name m n) (view_entry pins repos installed n) None
    by (inl same) =
        ap (λ t. cond t (Some x) (entry_of n view)) same ∙ sym is ∙ ap (view_entry pins repos installed) (same_name-is m n same)
        ∙ sym (ap (λ t. cond (has_name n names || t) (view_entry pins repos installed n) None) same
        ∙ ap (λ t. cond t (view_entry pins repos installed n) None) (or_last (has_name n names)))
    by (inr apart) =
        ap (λ t. cond t (Some x) (entry_of n view)) apart ∙ so_far n
        ∙ sym (ap (λ t. cond (has_name n names || t) (view_entry pins repos installed n) None) apart
        ∙ ap (λ t. cond t (view_entry pins repos installed n) None) (or_none (has_name n names)))

-- a name without an entry
pub view_same : (pins : List PinLine) (repos : List Repo) (installed : List Object) (names : List Text) (view : List Object) (m : Text) → view_entry pins repos installed m ≡ None
    → IsViewOf pins repos installed names view → IsViewOf pins repos installed (names ++ m ∷ []) view
view_same pins repos installed names view m is so_far n =
    so_far n ∙ by (cases_Bool (same_name m n)) ∙ sym (ap (λ t. cond t (view_entry pins repos installed n) None) (has-push n m names))
  where
    by : (same_name m n ≡ true) ⊎ (same_name m n ≡ false)
        → cond (has_name n names) (view_entry pins repos installed n) None ≡ cond (has_name n names || same_name m n) (view_entry pins repos installed n) None
    by (inl same) =
        let none : view_entry pins repos installed n ≡ None = ap (view_entry pins repos installed) (sym (same_name-is m n same)) ∙ is in
        cond_same (has_name n names) _ none ∙ sym (cond_same (has_name n names || same_name m n) _ none)
    by (inr apart) = sym (ap (λ t. cond (has_name n names || t) (view_entry pins repos installed n) None) apart ∙ ap (λ t. cond t (view_entry pins repos installed n) None) (or_none (has_name n names)))

-- all names that are known
pub view_done : (pins : List PinLine) (repos : List Repo) (installed : List Object) (names : List Text) (view : List Object) → ((n : Text) → has_name n names ≡ is_known repos installed n)
    → IsViewOf pins repos installed names view → (n : Text) → entry_of n view ≡ view_entry pins repos installed n
view_done pins repos installed names view all so_far n = so_far n ∙ ap (λ t. cond t (view_entry pins repos installed n) None) (all n) ∙ by (cases_Bool (is_known repos installed n))
  where
    by : (is_known repos installed n ≡ true) ⊎ (is_known repos installed n ≡ false) → cond (is_known repos installed n) (view_entry pins repos installed n) None ≡ view_entry pins repos installed n
    by (inl known) = ap (λ t. cond t (view_entry pins repos installed n) None) known
    by (inr other) = ap (λ t. cond t (view_entry pins repos installed n) None) other ∙ sym (view_none pins repos installed n other)
