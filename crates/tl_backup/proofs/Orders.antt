-- Lists in order: a list is put in order in one way.
use Rattle.std.proofs.Common.{◌≡◌, ◌≤◌, ◌<◌, ◌+◌, ℕ, suc, Bool, true, false, cond, List, [], ◌∷◌, length, get_or, refl, sym, ap, ◌∙◌, arith}
use Rattle.std.specs.Ordering.{is_lt, ordering_reverse, ordering_then, nat_cmp}
use Rattle.std.specs.declared.cmp.Ordering.{Ordering}
use Rattle.std.specs.declared.cmp.Ordering.TheVariants.{Less, Equal, Greater}
use Rattle.std.specs.Cmp.{IsTotalOrder, tied_itself, then_total, on_total, nat_cmp_total}
use Rattle.std.specs.Cmp.Lexicographic.{slice_cmp, nat_list_cmp_total}
use Rattle.std.specs.FinMap.{IsAntisymmetric, nat_cmp-IsAntisymmetric, slice_cmp-IsAntisymmetric}
use Rattle.std.specs.List.{sum_by, AllByRecursion}
use Rattle.std.specs.List.Sorted.{IsPermutation, IsSorted}
use Rattle.std.proofs.lemmas.Bool.{true≢false}
use Rattle.std.proofs.lemmas.List.Sums.{sum_by-cons}
use Rattle.std.proofs.lemmas.List.Sorted.{sum_by-IsPermutation, sorted_far, ranks_by}
use Rattle.tl_backup.specs.Files.{backup_cmp}
use Rattle.tl_backup.specs.Ordered.{put_in, in_order}
use Rattle.tl_backup.specs.declared.names.Backup.{Backup}

module _ {X : Type 0} (R : X → X → Ordering) (total : IsTotalOrder R) where
  -- none of some elements is less than one
  abbrev NoneLess : X → List X → Type 0
  NoneLess x ys = AllByRecursion (λ (y : X). is_lt (R y x) ≡ false) ys

  -- each element is followed by none that is less
  abbrev Ascends : List X → Type 0
  Ascends [] = Unit {0}
  Ascends (x ∷ xs) = NoneLess x xs × Ascends xs

  -- 1 for what is less than an element
  abbrev less_than : X → X → ℕ
  less_than x y = cond (is_lt (R y x)) 1 0

  none_less : (x : X) (ys : List X) → NoneLess x ys → sum_by (less_than x) ys ≡ 0
  none_less x [] none = refl
  none_less x (y ∷ ys) none =
      let first : less_than x y ≡ 0 = ap (λ b. cond b 1 0) none.0 in let rest = none_less x ys none.1 in omega (arith, sum_by-cons (less_than x) y ys, first, rest)

  not_itself : (x : X) → is_lt (R x x) ≡ false
  not_itself x = ap is_lt (tied_itself total x)

  -- the first element, with the others, of which none is less
  first_least : (x : X) (xs : List X) → NoneLess x xs → sum_by (less_than x) (x ∷ xs) ≡ 0
  first_least x xs none = none_less x (x ∷ xs) (not_itself x, none)

  first_not : (b : Bool) (n : ℕ) → cond b 1 0 + n ≡ 0 → b ≡ false
  first_not true n e = absurd (omega arith)
  first_not false n e = refl

  -- where a first element adds nothing, it isn't less
  not_less : (x y : X) (xs : List X) → sum_by (less_than x) (y ∷ xs) ≡ 0 → is_lt (R y x) ≡ false
  not_less x y xs none = first_not (is_lt (R y x)) (sum_by (less_than x) xs) (sym (sum_by-cons (less_than x) y xs) ∙ none)

  between_two : (r s : Ordering) → r ≡ ordering_reverse s → is_lt r ≡ false → is_lt s ≡ false → r ≡ Equal
  between_two Less s e a b = absurd (true≢false a)
  between_two Equal s e a b = refl
  between_two Greater Less e a b = absurd (true≢false b)
  between_two Greater Equal e a b = e
  between_two Greater Greater e a b = absurd (cc)

  counted : (x : X) (xs : List X) → sum_by (λ (z : X). 1) (x ∷ xs) ≡ sum_by (λ (z : X). 1) [] → ⊥
  counted x xs none = let all = sum_by-cons (λ (z : X). 1) x xs in omega (arith, none, all)

  -- two ascending lists with the same sums of each function are one
  module _ (same : IsAntisymmetric R) where
    ascends_same : (xs ys : List X) → ((f : X → ℕ) → sum_by f xs ≡ sum_by f ys) → Ascends xs → Ascends ys → xs ≡ ys
    ascends_same [] [] sums up up' = refl
    ascends_same [] (y ∷ ys) sums up up' = absurd (counted y ys (sym (sums (λ z. 1))))
    ascends_same (x ∷ xs) [] sums up up' = absurd (counted x xs (sums (λ z. 1)))
    ascends_same (x ∷ xs) (y ∷ ys) sums up up' =
        let here : is_lt (R x y) ≡ false = not_less y x xs (sums (less_than y) ∙ first_least y ys up'.0) in
        let there : is_lt (R y x) ≡ false = not_less x y ys (sym (sums (less_than x)) ∙ first_least x xs up.0) in
        let is : x ≡ y = same x y (between_two (R x y) (R y x) (total.antisymm x y) here there) in
        let rest : xs ≡ ys = ascends_same xs ys (λ f. without f (sums f) (ap f is)) up.1 up'.1 in
        cc
      where
        without : (f : X → ℕ) → sum_by f (x ∷ xs) ≡ sum_by f (y ∷ ys) → f x ≡ f y → sum_by f xs ≡ sum_by f ys
        without f all one = omega (arith, all, one, sum_by-cons f x xs, sum_by-cons f y ys)

  put_in_by : (f : X → ℕ) (x y : X) (ys : List X) (b : Bool) → sum_by f (put_in R x ys) ≡ f x + sum_by f ys → sum_by f (cond b (y ∷ put_in R x ys) (x ∷ y ∷ ys)) ≡ f x + sum_by f (y ∷ ys)
  put_in_by f x y ys true rest = omega (arith, rest, sum_by-cons f y (put_in R x ys), sum_by-cons f y ys)
  put_in_by f x y ys false rest = sum_by-cons f x (y ∷ ys)

  sum_by-put_in : (f : X → ℕ) (x : X) (ys : List X) → sum_by f (put_in R x ys) ≡ f x + sum_by f ys
  sum_by-put_in f x [] = sum_by-cons f x []
  sum_by-put_in f x (y ∷ ys) = put_in_by f x y ys (is_lt (R y x)) (sum_by-put_in f x ys)

  sum_by-in_order : (f : X → ℕ) (xs : List X) → sum_by f (in_order R xs) ≡ sum_by f xs
  sum_by-in_order f [] = refl
  sum_by-in_order f (x ∷ xs) = sum_by-put_in f x (in_order R xs) ∙ ap (λ n. f x + n) (sum_by-in_order f xs) ∙ sym (sum_by-cons f x xs)

  -- what is no greater than what isn't greater
  not_less_trans : (x y z : X) → is_lt (R y x) ≡ false → is_lt (R z y) ≡ false → is_lt (R z x) ≡ false
  not_less_trans x y z a b = (ranks_by total (λ (w : X). w)).chain z y x b a

  none_less-put_in : (x y : X) (ys : List X) → is_lt (R y x) ≡ false → NoneLess x ys → NoneLess x (put_in R y ys)
  none_less-put_in x y [] le none = (le, tt)
  none_less-put_in x y (z ∷ zs) le none = by (is_lt (R z y)) (none_less-put_in x y zs le none.1)
    where
      by : (b : Bool) → NoneLess x (put_in R y zs) → NoneLess x (cond b (z ∷ put_in R y zs) (y ∷ z ∷ zs))
      by true rest = (none.0, rest)
      by false rest = (le, none)

  all_none_less : (x y : X) (ys : List X) → is_lt (R y x) ≡ false → NoneLess y ys → NoneLess x ys
  all_none_less x y [] le none = tt
  all_none_less x y (z ∷ zs) le none = (not_less_trans x y z le none.0, all_none_less x y zs le none.1)

  less_not_back : (r s : Ordering) → r ≡ ordering_reverse s → is_lt r ≡ true → is_lt s ≡ false
  less_not_back Less Less e a = absurd (cc)
  less_not_back Less Equal e a = refl
  less_not_back Less Greater e a = refl
  less_not_back Equal s e a = absurd (cc)
  less_not_back Greater s e a = absurd (cc)

  ascends-put_in : (x : X) (ys : List X) → Ascends ys → Ascends (put_in R x ys)
  ascends-put_in x [] up = (tt, tt)
  ascends-put_in x (y ∷ ys) up = by (is_lt (R y x)) refl (ascends-put_in x ys up.1)
    where
      by : (b : Bool) → is_lt (R y x) ≡ b → Ascends (put_in R x ys) → Ascends (cond b (y ∷ put_in R x ys) (x ∷ y ∷ ys))
      by true is rest = (none_less-put_in y x ys (less_not_back (R y x) (R x y) (total.antisymm y x) is) up.0, rest)
      by false is rest = ((is, all_none_less x y ys is up.0), up)

  ascends-in_order : (xs : List X) → Ascends (in_order R xs)
  ascends-in_order [] = tt
  ascends-in_order (x ∷ xs) = ascends-put_in x (in_order R xs) (ascends-in_order xs)

  -- where no element is less than one before it
  ascends_far : (xs : List X) → ((i j : ℕ) (d : X) → i ≤ j → j < length xs → is_lt (R (get_or xs j d) (get_or xs i d)) ≡ false) → Ascends xs
  ascends_far [] far = tt
  ascends_far (x ∷ xs) far =
      (none_far xs (λ k d less. far 0 (suc k) d (omega arith) (omega arith)), ascends_far xs (λ i j d le less. far (suc i) (suc j) d (omega arith) (omega arith)))
    where
      none_far : (ys : List X) → ((k : ℕ) (d : X) → k < length ys → is_lt (R (get_or ys k d) x) ≡ false) → NoneLess x ys
      none_far [] none = tt
      none_far (y ∷ ys) none = (none 0 y (omega arith), none_far ys (λ k d less. none (suc k) d (omega arith)))

  -- a sorted list of a list's elements is that list in order
  pub sorted_in_order : IsAntisymmetric R → (xs ys : List X) → IsPermutation xs ys → IsSorted R ys → ys ≡ in_order R xs
  sorted_in_order same xs ys moved up = ascends_same same ys (in_order R xs)
      (λ f. sum_by-IsPermutation f xs ys moved ∙ sym (sum_by-in_order f xs))
      (ascends_far ys (sorted_far (λ a b. is_lt (R a b)) (ranks_by total (λ (w : X). w)) ys up))
      (ascends-in_order xs)

-- the order of backups is total
pub backup_total : IsTotalOrder backup_cmp
backup_total = then_total (on_total (λ (b : Backup). b.name) nat_list_cmp_total) (on_total (λ (b : Backup). b.revision) nat_cmp_total)

then_equal : (r s : Ordering) → ordering_then r s ≡ Equal → (r ≡ Equal) × (s ≡ Equal)
then_equal Less s e = absurd (cc)
then_equal Equal s e = (refl, e)
then_equal Greater s e = absurd (cc)

-- backups that no order tells apart are one
pub backup_antisymmetric : IsAntisymmetric backup_cmp
backup_antisymmetric a b e =
    let parts = then_equal (slice_cmp nat_cmp a.name b.name) (nat_cmp a.revision b.revision) e in
    let names : a.name ≡ b.name = slice_cmp-IsAntisymmetric nat_cmp-IsAntisymmetric a.name b.name parts.0 in
    let revisions : a.revision ≡ b.revision = nat_cmp-IsAntisymmetric a.revision b.revision parts.1 in
    λ i. record { name = names i; revision = revisions i }
