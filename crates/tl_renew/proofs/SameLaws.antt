-- Lists that have the same names.
use Rattle.std.proofs.Common.{◌≡◌, ◌⊎◌, ℕ, zero, suc, Bool, true, false, cond, ◌||◌, ◌&&◌, List, [], ◌∷◌, ◌++◌, Option, refl, sym, ap, subst, ◌∙◌, inl, inr}
use Rattle.std.specs.Prelude.{filter}
use Rattle.std.specs.List.{list_any, flat_map}
use Rattle.std.specs.Str.{bytes_eq}
use Rattle.std.proofs.Math.Path.{fun_ext}
use Rattle.std.proofs.lemmas.Bool.{cases_Bool}
use Rattle.std.proofs.lemmas.List.Folds.{list_any-append}
use Rattle.indexmap.specs.IndexSet.{insert_all}
use Rattle.tl_entry.specs.FilePaths.{rising_of}
use Rattle.tl_entry.proofs.SetLemmas.{has-rising_of, rising-rising_of, rising_same}
use Rattle.tl_entry.specs.declared.object.Object.{Object}
use Rattle.tl_db.specs.Entries.{entry_of}
use Rattle.tl_depend.specs.Order.{IsInstallOrder}
use Rattle.tl_plan.specs.Removal.{is_among}
use Rattle.tl_plan.proofs.SetLaws.{among_either, among_all, all_onto, any_flat}
use Rattle.tl_plan.proofs.OrderLaws.{order_is}
use Rattle.tl_touch.proofs.Touching.{any_members, bytes_same}
use Rattle.tl_bring.specs.Coming.{order_by}
use Rattle.tl_bring.specs.Reached.{reached_by}
use Rattle.tl_renew.specs.Sets.{HaveSame}

abbrev pub Texts : Type 0
Texts = List (List ℕ)

and_false : (t : Bool) → (t && false) ≡ false
and_false true = refl
and_false false = refl

-- what is among the names that pass a test
pub among_filter : (p : List ℕ → Bool) (w : List ℕ) (xs : Texts) → is_among w (filter p xs) ≡ (p w && is_among w xs)
among_filter p w [] = sym (and_false (p w))
among_filter p w (x ∷ xs) = by (cases_Bool (p x)) (cases_Bool (bytes_eq w x)) (among_filter p w xs)
  where
    by : (p x ≡ true) ⊎ (p x ≡ false) → (bytes_eq w x ≡ true) ⊎ (bytes_eq w x ≡ false) → is_among w (filter p xs) ≡ (p w && is_among w xs)
        → is_among w (filter p (x ∷ xs)) ≡ (p w && is_among w (x ∷ xs))
    by (inl is) (inl same) rest =
        let here : p w ≡ true = ap p (bytes_same w x same) ∙ is in
        ap (λ t. is_among w (cond t (x ∷ filter p xs) (filter p xs))) is ∙ ap (λ t. t || is_among w (filter p xs)) same
        ∙ sym (ap (λ t. t && is_among w (x ∷ xs)) here ∙ ap (λ t. t || is_among w xs) same)
    by (inl is) (inr apart) rest =
        ap (λ t. is_among w (cond t (x ∷ filter p xs) (filter p xs))) is ∙ ap (λ t. t || is_among w (filter p xs)) apart
        ∙ rest ∙ sym (ap (λ t. p w && (t || is_among w xs)) apart)
    by (inr off) (inl same) rest =
        let here : p w ≡ false = ap p (bytes_same w x same) ∙ off in
        ap (λ t. is_among w (cond t (x ∷ filter p xs) (filter p xs))) off ∙ rest
        ∙ ap (λ t. t && is_among w xs) here ∙ sym (ap (λ t. t && is_among w (x ∷ xs)) here)
    by (inr off) (inr apart) rest =
        ap (λ t. is_among w (cond t (x ∷ filter p xs) (filter p xs))) off ∙ rest ∙ sym (ap (λ t. p w && (t || is_among w xs)) apart)

-- names that are gathered are those that were given
pub same_set : (xs : Texts) → HaveSame (insert_all bytes_eq [] xs) xs
same_set xs name = among_all name [] xs

-- names that are gathered behind others
pub same_two : (xs ys : Texts) → HaveSame (insert_all bytes_eq (insert_all bytes_eq [] xs) ys) (xs ++ ys)
same_two xs ys name = ap (is_among name) (sym (all_onto [] xs ys)) ∙ same_set (xs ++ ys) name

pub same_append : (a b c d : Texts) → HaveSame a b → HaveSame c d → HaveSame (a ++ c) (b ++ d)
same_append a b c d left right name =
    list_any-append (bytes_eq name) a c ∙ ap (λ t. t || is_among name c) (left name) ∙ ap (λ t. is_among name b || t) (right name) ∙ sym (list_any-append (bytes_eq name) b d)

pub same_filter : (p : List ℕ → Bool) (xs ys : Texts) → HaveSame xs ys → HaveSame (filter p xs) (filter p ys)
same_filter p xs ys same name = among_filter p name xs ∙ ap (λ t. p name && t) (same name) ∙ sym (among_filter p name ys)

-- what each name gives
pub same_flat : (f : List ℕ → Texts) (xs ys : Texts) → HaveSame xs ys → HaveSame (flat_map f xs) (flat_map f ys)
same_flat f xs ys same name =
    any_flat (bytes_eq name) f xs
    ∙ any_members (λ x. list_any (bytes_eq name) (f x)) xs ys (λ w. sym (among_either w xs) ∙ same w ∙ among_either w ys)
    ∙ sym (any_flat (bytes_eq name) f ys)

-- what is reached
pub same_reached : (n : ℕ) (f : List ℕ → Texts) (xs ys : Texts) → HaveSame xs ys → HaveSame (reached_by n f xs) (reached_by n f ys)
same_reached zero f xs ys same = same
same_reached (suc n) f xs ys same = same_reached n f (xs ++ flat_map f xs) (ys ++ flat_map f ys) (same_append xs ys (flat_map f xs) (flat_map f ys) same (same_flat f xs ys same))

-- the names in the order of their bytes
pub same_rising : (xs ys : Texts) → HaveSame xs ys → rising_of xs ≡ rising_of ys
same_rising xs ys same =
    rising_same (rising_of xs) (rising_of ys) (rising-rising_of xs) (rising-rising_of ys)
    (λ w. has-rising_of w xs ∙ sym (among_either w xs) ∙ same w ∙ among_either w ys ∙ sym (has-rising_of w ys))

-- the names in the order in which they are installed
pub same_order : (db : List Object) (entry : List ℕ → Option Object) (keys names wanted ordered : Texts) → ((name : List ℕ) → entry_of name db ≡ entry name)
    → keys ≡ insert_all bytes_eq [] names → HaveSame names wanted → IsInstallOrder db keys ordered → ordered ≡ order_by entry (rising_of wanted)
same_order db entry keys names wanted ordered at is same order =
    order_is db names ordered (subst (λ (ks : Texts). IsInstallOrder db ks ordered) is order)
    ∙ ap (λ (e : List ℕ → Option Object). order_by e (rising_of names)) (fun_ext at)
    ∙ ap (order_by entry) (same_rising names wanted same)

pub gathered_onto : (keys some more : Texts) → insert_all bytes_eq keys (some ++ more) ≡ insert_all bytes_eq (insert_all bytes_eq keys some) more
gathered_onto keys some more = all_onto keys some more
