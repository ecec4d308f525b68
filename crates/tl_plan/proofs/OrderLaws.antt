-- The order in which packages are installed, as a function of names in the order of their bytes.
use Rattle.std.proofs.Common.{◌≡◌, ◌≤◌, ◌<◌, ◌+◌, ℕ, zero, suc, Bool, true, false, cond, ◌&&◌, ◌||◌, List, [], ◌∷◌, ◌++◌, length, get_or, refl, sym, ap, subst, ◌∙◌, arith}
use Rattle.std.specs.Prelude.{nat_eq}
use Rattle.std.specs.List.{list_any, IsDistinct, dedup, dedup_from, AllByRecursion}
use Rattle.std.specs.List.Sorted.{IsPermutation, IsSorted, IsStrictlySortedBy}
use Rattle.std.specs.Str.{bytes_eq}
use Rattle.std.specs.Ordering.{nat_cmp, is_lt}
use Rattle.std.specs.declared.cmp.Ordering.TheVariants.{Less}
use Rattle.std.specs.Cmp.{IsEquivalence}
use Rattle.std.specs.Cmp.Lexicographic.{slice_cmp, texts_ties, nat_list_cmp_total, nat_list_eq_equiv}
use Rattle.std.proofs.lemmas.List.Kept.{IsStrictlySortedBy-dedup}
use Rattle.std.proofs.lemmas.List.Sorted.{list_any-IsPermutation}
use Rattle.std.proofs.lemmas.Map.Keys.{IsDistinct-IsPermutation}
use Rattle.indexmap.specs.IndexSet.{insert_all}
use Rattle.tl_model.specs.Volume.{same_name}
use Rattle.tl_entry.specs.Rising.{has_key, is_rising, is_rising_after}
use Rattle.tl_entry.specs.FilePaths.{rising_of}
use Rattle.tl_entry.proofs.SetLemmas.{rising_of_is}
use Rattle.tl_entry.specs.declared.object.Object.{Object}
use Rattle.tl_depend.specs.Order.{IsInstallOrder}
use Rattle.tl_plan.specs.Plans.{install_order}
use Rattle.tl_plan.proofs.SetLaws.{among_all, among_either, distinct_all}

abbrev Texts : Type 0
Texts = List (List ℕ)

flips : (a b : List ℕ) → bytes_eq a b ≡ bytes_eq b a
flips a b = let laws : IsEquivalence bytes_eq = nat_list_eq_equiv in laws.symm a b

-- texts of which no two are one stay as they are where those that come again are dropped
once_from : (kept : List ℕ) (texts : Texts) → IsDistinct bytes_eq (kept ∷ texts) → dedup_from bytes_eq kept texts ≡ kept ∷ texts
unfolding IsDistinct
once_from kept [] apart = refl
once_from kept (text ∷ texts) apart =
    ap (λ t. cond t (dedup_from bytes_eq kept texts) (kept ∷ dedup_from bytes_eq text texts)) (flips text kept ∙ apart.0.0)
    ∙ ap (λ (more : Texts). kept ∷ more) (once_from text texts apart.1)

once : (texts : Texts) → IsDistinct bytes_eq texts → dedup bytes_eq texts ≡ texts
once [] apart = refl
once (text ∷ texts) apart = once_from text texts apart

rising_strictly : (texts : Texts) → IsStrictlySortedBy (slice_cmp nat_cmp) texts → is_rising (λ t. t) texts ≡ true
unfolding IsStrictlySortedBy
rising_strictly [] up = refl
rising_strictly (text ∷ texts) up = after text texts up.0 up.1
  where
    after : (text : List ℕ) (texts : Texts) → AllByRecursion (λ (y : List ℕ). slice_cmp nat_cmp text y ≡ Less) texts → IsStrictlySortedBy (slice_cmp nat_cmp) texts → is_rising_after (λ t. t) text texts ≡ true
    after text [] all up = refl
    after text (next ∷ texts) all up = ap (λ o. is_lt o && is_rising_after (λ t. t) next texts) all.0 ∙ after next texts up.0 up.1

-- names that were gathered, each once, and sorted are these names in the order of their bytes
pub sorted_set : (names sorted : Texts) → IsPermutation (insert_all bytes_eq [] names) sorted → IsSorted (slice_cmp nat_cmp) sorted → sorted ≡ rising_of names
unfolding IsDistinct
sorted_set names sorted moved up =
    let keys : Texts = insert_all bytes_eq [] names in
    let apart : IsDistinct bytes_eq sorted = IsDistinct-IsPermutation bytes_eq flips keys sorted moved (distinct_all [] names tt) in
    let strict : IsStrictlySortedBy (slice_cmp nat_cmp) sorted =
    subst (λ (ts : Texts). IsStrictlySortedBy (slice_cmp nat_cmp) ts) (once sorted apart) (IsStrictlySortedBy-dedup nat_list_cmp_total texts_ties sorted up) in
    let members : (w : List ℕ) → has_key (λ t. t) w sorted ≡ has_key (λ t. t) w names =
    λ w. sym (list_any-IsPermutation (λ t. same_name t w) keys sorted moved) ∙ sym (among_either w keys) ∙ among_all w [] names ∙ among_either w names in
    rising_of_is names sorted (rising_strictly sorted strict) members

-- names that were gathered, in the order in which they are installed
pub order_is : (db : List Object) (names ordered : Texts) → IsInstallOrder db (insert_all bytes_eq [] names) ordered → ordered ≡ install_order db (rising_of names)
order_is db names ordered is = is.groups ∙ ap (install_order db) (sorted_set names is.sorted is.same is.rising)
