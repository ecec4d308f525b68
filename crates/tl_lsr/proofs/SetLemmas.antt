-- Lists of texts in order, which are sets of them.
use Rattle.std.proofs.Common.{◌≡◌, ℕ, Bool, true, false, cond, ◌||◌, List, [], ◌∷◌, refl, sym, ap, subst, ◌∙◌}
use Rattle.std.specs.List.{AllByRecursion, list_any, fold}
use Rattle.std.specs.Ordering.{nat_cmp, is_eq, is_lt, ordering_reverse, match_ordering}
use Rattle.std.specs.declared.cmp.Ordering.{Ordering}
use Rattle.std.specs.declared.cmp.Ordering.TheVariants.{Less, Equal, Greater}
use Rattle.std.specs.Cmp.Lexicographic.{slice_cmp, nat_list_cmp_total}
use Rattle.std.specs.Cmp.{tied_itself}
use Rattle.std.specs.FinMap.{slice_cmp-IsAntisymmetric, nat_cmp-IsAntisymmetric}
use Rattle.std.specs.BTreeMap.{is_at}
use Rattle.std.specs.BTreeSet.{insert_key}
use Rattle.std.specs.Set.{remove_key}
use Rattle.std.proofs.lemmas.Bool.{true≢false}
use Rattle.tl_lsr.specs.Items.{items_of, with_items, all_items}
use Rattle.tl_lsr.specs.Reading.{has}

abbrev pub Text : Type 0
Text = List ℕ

abbrev pub order : Text → Text → Ordering
order = slice_cmp nat_cmp

-- each text is below those behind it
abbrev pub Up : List Text → Type 0
Up [] = Unit {0}
Up (x ∷ xs) = AllByRecursion (λ y. order x y ≡ Less) xs × Up xs

pub same_text : (a b : Text) → order a b ≡ Equal → a ≡ b
same_text a b e = slice_cmp-IsAntisymmetric nat_cmp-IsAntisymmetric a b e

pub less_trans : (a b c : Text) → order a b ≡ Less → order b c ≡ Less → order a c ≡ Less
less_trans a b c p q = nat_list_cmp_total.trans a b c p q

pub turned : (a b : Text) → order a b ≡ Greater → order b a ≡ Less
turned a b e = nat_list_cmp_total.antisymm b a ∙ ap ordering_reverse e

pub not_itself : (a : Text) → order a a ≡ Less → ⊥
not_itself a e = true≢false (sym (ap is_lt e) ∙ ap is_lt (tied_itself nat_list_cmp_total a))

pub or_false : (a : Bool) → (a || false) ≡ a
or_false true = refl
or_false false = refl

pub or_swap : (a b c : Bool) → (a || (b || c)) ≡ (b || (a || c))
or_swap true true c = refl
or_swap true false c = refl
or_swap false b c = refl

or_twice : (a b : Bool) → (a || (a || b)) ≡ (a || b)
or_twice true b = refl
or_twice false b = refl

pub or_assoc : (a b c : Bool) → ((a || b) || c) ≡ (a || (b || c))
or_assoc true b c = refl
or_assoc false b c = refl

pub or_true : (a : Bool) → (a || true) ≡ true
or_true true = refl
or_true false = refl

-- ---- one text more

any_put : (q : Text → Bool) (xs : List Text) (x k : Text) (o : Ordering) → order k x ≡ o → list_any q (insert_key order xs k) ≡ (q k || list_any q xs)
    → list_any q (match_ordering o (k ∷ x ∷ xs) (x ∷ xs) (x ∷ insert_key order xs k)) ≡ (q k || (q x || list_any q xs))
any_put q xs x k Less is more = refl
any_put q xs x k Equal is more = sym (or_twice (q x) (list_any q xs)) ∙ ap (λ (t : Text). q t || (q x || list_any q xs)) (sym (same_text k x is))
any_put q xs x k Greater is more = ap (λ b. q x || b) more ∙ or_swap (q x) (q k) (list_any q xs)

pub any-insert : (q : Text → Bool) (xs : List Text) (k : Text) → list_any q (insert_key order xs k) ≡ (q k || list_any q xs)
any-insert q [] k = refl
any-insert q (x ∷ xs) k = any_put q xs x k (order k x) refl (any-insert q xs k)

pub all-insert : (P : Text → Type 0) (xs : List Text) (k : Text) → AllByRecursion P xs → P k → AllByRecursion P (insert_key order xs k)
all-insert P [] k each here = (here, tt)
all-insert P (x ∷ xs) k each here = by (order k x) (all-insert P xs k each.1 here)
  where
    by : (o : Ordering) → AllByRecursion P (insert_key order xs k) → AllByRecursion P (match_ordering o (k ∷ x ∷ xs) (x ∷ xs) (x ∷ insert_key order xs k))
    by Less more = (here, each)
    by Equal more = each
    by Greater more = (each.0, more)

pub all_above : (a b : Text) (xs : List Text) → order a b ≡ Less → AllByRecursion (λ y. order b y ≡ Less) xs → AllByRecursion (λ y. order a y ≡ Less) xs
all_above a b [] lt above = tt
all_above a b (x ∷ xs) lt above = (less_trans a b x lt above.0, all_above a b xs lt above.1)

pub up-insert : (xs : List Text) (k : Text) → Up xs → Up (insert_key order xs k)
up-insert [] k up = (tt, tt)
up-insert (x ∷ xs) k up = by (order k x) refl (up-insert xs k up.1)
  where
    by : (o : Ordering) → order k x ≡ o → Up (insert_key order xs k) → Up (match_ordering o (k ∷ x ∷ xs) (x ∷ xs) (x ∷ insert_key order xs k))
    by Less is more = ((is, all_above k x xs is up.0), up)
    by Equal is more = up
    by Greater is more = (all-insert (λ (y : Text). order x y ≡ Less) xs k up.0 (turned k x is), more)

-- ---- one text less

pub all-remove : (P : Text → Type 0) (k : Text) (xs : List Text) → AllByRecursion P xs → AllByRecursion P (remove_key (is_at (order k)) xs)
all-remove P k [] each = tt
all-remove P k (x ∷ xs) each = by (is_at (order k) x) (all-remove P k xs each.1)
  where
    by : (t : Bool) → AllByRecursion P (remove_key (is_at (order k)) xs) → AllByRecursion P (cond t xs (x ∷ remove_key (is_at (order k)) xs))
    by true more = each.1
    by false more = (each.0, more)

pub up-remove : (k : Text) (xs : List Text) → Up xs → Up (remove_key (is_at (order k)) xs)
up-remove k [] up = tt
up-remove k (x ∷ xs) up = by (is_at (order k) x) (up-remove k xs up.1)
  where
    by : (t : Bool) → Up (remove_key (is_at (order k)) xs) → Up (cond t xs (x ∷ remove_key (is_at (order k)) xs))
    by true more = up.1
    by false more = (all-remove (λ (y : Text). order x y ≡ Less) k xs up.0, more)

equal_of : (o : Ordering) → is_eq o ≡ true → o ≡ Equal
equal_of Less e = absurd (true≢false (sym e))
equal_of Equal e = refl
equal_of Greater e = absurd (true≢false (sym e))

pub same_of : (a b : Text) → is_at (order a) b ≡ true → a ≡ b
same_of a b is = same_text a b (equal_of (order a b) is)

pub any-remove : (q : Text → Bool) (k : Text) (xs : List Text) → has xs k ≡ true → list_any q xs ≡ (q k || list_any q (remove_key (is_at (order k)) xs))
any-remove q k [] there = absurd (true≢false (sym there))
any-remove q k (x ∷ xs) there = by (is_at (order k) x) refl there (any-remove q k xs)
  where
    by : (t : Bool) → is_at (order k) x ≡ t → (t || has xs k) ≡ true → (has xs k ≡ true → list_any q xs ≡ (q k || list_any q (remove_key (is_at (order k)) xs)))
        → (q x || list_any q xs) ≡ (q k || list_any q (cond t xs (x ∷ remove_key (is_at (order k)) xs)))
    by true is there more = ap (λ (t : Text). q t || list_any q xs) (sym (same_of k x is))
    by false is there more = ap (λ b. q x || b) (more there) ∙ or_swap (q x) (q k) (list_any q (remove_key (is_at (order k)) xs))

-- a text below all isn't there
pub none_below : (a : Text) (xs : List Text) → AllByRecursion (λ y. order a y ≡ Less) xs → has xs a ≡ false
none_below a [] above = refl
none_below a (x ∷ xs) above = ap (λ (o : Ordering). is_eq o || has xs a) above.0 ∙ none_below a xs above.1

pub none-remove : (k : Text) (xs : List Text) → Up xs → has (remove_key (is_at (order k)) xs) k ≡ false
none-remove k [] up = refl
none-remove k (x ∷ xs) up = by (is_at (order k) x) refl (none-remove k xs up.1)
  where
    by : (t : Bool) → is_at (order k) x ≡ t → has (remove_key (is_at (order k)) xs) k ≡ false → has (cond t xs (x ∷ remove_key (is_at (order k)) xs)) k ≡ false
    by true is more = none_below k xs (subst (λ (a : Text). AllByRecursion (λ (y : Text). order a y ≡ Less) xs) (sym (same_of k x is)) up.0)
    by false is more = ap (λ t. t || has (remove_key (is_at (order k)) xs) k) is ∙ more

-- what isn't there stays as it is
pub remove-none : (k : Text) (xs : List Text) → has xs k ≡ false → remove_key (is_at (order k)) xs ≡ xs
remove-none k [] none = refl
remove-none k (x ∷ xs) none = by (is_at (order k) x) none (remove-none k xs)
  where
    by : (t : Bool) → (t || has xs k) ≡ false → (has xs k ≡ false → remove_key (is_at (order k)) xs ≡ xs) → cond t xs (x ∷ remove_key (is_at (order k)) xs) ≡ x ∷ xs
    by true none more = absurd (true≢false none)
    by false none more = ap (λ (l : List Text). x ∷ l) (more none)

-- ---- two lists in order with the same texts are one

pub has_itself : (a : Text) (xs : List Text) → has (a ∷ xs) a ≡ true
has_itself a xs = ap (λ (o : Ordering). is_eq o || has xs a) (tied_itself nat_list_cmp_total a)

pub same_lists : (xs ys : List Text) → Up xs → Up ys → ((w : Text) → has xs w ≡ has ys w) → xs ≡ ys
same_lists [] [] up up' same = refl
same_lists [] (y ∷ ys) up up' same = absurd (true≢false (sym (has_itself y ys) ∙ sym (same y)))
same_lists (x ∷ xs) [] up up' same = absurd (true≢false (sym (has_itself x xs) ∙ same x))
same_lists (x ∷ xs) (y ∷ ys) up up' same = by (order x y) refl (same_lists xs ys up.1 up'.1)
  where
    tail : x ≡ y → (w : Text) (t : Bool) → is_at (order w) x ≡ t → has xs w ≡ has ys w
    tail is w true here =
        subst (λ (a : Text). has xs a ≡ has ys a) (sym (same_of w x here))
        (none_below x xs up.0 ∙ sym (none_below x ys (subst (λ (a : Text). AllByRecursion (λ (z : Text). order a z ≡ Less) ys) (sym is) up'.0)))
    tail is w false here =
        ap (λ t. t || has xs w) (sym here) ∙ same w ∙ ap (λ (a : Text). is_eq (order w a) || has ys w) (sym is) ∙ ap (λ t. t || has ys w) here

    by : (o : Ordering) → order x y ≡ o → (((w : Text) → has xs w ≡ has ys w) → xs ≡ ys) → x ∷ xs ≡ y ∷ ys
    by Less is more = absurd (true≢false (sym (has_itself x xs) ∙ same x ∙ none_below x (y ∷ ys) (is, all_above x y ys is up'.0)))
    by Equal is more =
        let e = same_text x y is in
        ap (λ (a : Text). a ∷ xs) e ∙ ap (λ (l : List Text). y ∷ l) (more (λ w. tail e w (is_at (order w) x) refl))
    by Greater is more = let lt = turned x y is in absurd (true≢false (sym (has_itself y ys) ∙ sym (same y) ∙ none_below y (x ∷ xs) (lt, all_above y x xs lt up.0)))

-- ---- many texts

pub any-fold : (q : Text → Bool) (ks xs : List Text) → list_any q (fold (insert_key order) xs ks) ≡ (list_any q xs || list_any q ks)
any-fold q [] xs = sym (or_false (list_any q xs))
any-fold q (k ∷ ks) xs =
    any-fold q ks (insert_key order xs k) ∙ ap (λ t. t || list_any q ks) (any-insert q xs k)
    ∙ or_assoc (q k) (list_any q xs) (list_any q ks) ∙ or_swap (q k) (list_any q xs) (list_any q ks)

pub up-fold : (ks xs : List Text) → Up xs → Up (fold (insert_key order) xs ks)
up-fold [] xs up = up
up-fold (k ∷ ks) xs up = up-fold ks (insert_key order xs k) (up-insert xs k up)

any-with : (q : Text → Bool) (paths xs : List Text) → list_any q (fold with_items xs paths) ≡ (list_any q xs || list_any (λ p. list_any q (items_of p)) paths)
any-with q [] xs = sym (or_false (list_any q xs))
any-with q (p ∷ paths) xs =
    any-with q paths (with_items xs p) ∙ ap (λ t. t || list_any (λ p. list_any q (items_of p)) paths) (any-fold q (items_of p) xs)
    ∙ or_assoc (list_any q xs) (list_any q (items_of p)) (list_any (λ p. list_any q (items_of p)) paths)

-- which texts are items of some paths
pub any-items : (q : Text → Bool) (paths : List Text) → list_any q (all_items paths) ≡ list_any (λ p. list_any q (items_of p)) paths
any-items q paths = any-with q paths []

up-with : (paths xs : List Text) → Up xs → Up (fold with_items xs paths)
up-with [] xs up = up
up-with (p ∷ paths) xs up = up-with paths (with_items xs p) (up-fold (items_of p) xs up)

pub up-items : (paths : List Text) → Up (all_items paths)
up-items paths = up-with paths [] tt
