-- Items, their order, and the components of paths.
use Rattle.std.proofs.Common.{◌≡◌, ◌<◌, ℕ, Bool, true, false, cond, nat_eq, List, [], ◌∷◌, ◌++◌, refl, ap, ◌∙◌, arith}
use Rattle.std.specs.List.{AllByRecursion, onto_first}
use Rattle.std.specs.Ordering.{nat_cmp, ordering_then}
use Rattle.std.specs.declared.cmp.Ordering.{Ordering}
use Rattle.std.specs.declared.cmp.Ordering.TheVariants.{Less, Equal, Greater}
use Rattle.std.proofs.lemmas.Bool.Decides.{nat_tests}
use Rattle.tl_path.specs.Components.{components}
use Rattle.tl_lsr.specs.Items.{item, dir_of, name_of, path_in, items_below}
use Rattle.tl_lsr.proofs.SetLemmas.{Text, order}

-- no byte is a line end or below it
abbrev pub IsClear : Text → Type 0
IsClear text = AllByRecursion (λ b. 10 < b) text

pub dir_of-item : (dir name : Text) → IsClear dir → dir_of (item dir name) ≡ dir
dir_of-item [] name clear = refl
dir_of-item (b ∷ dir) name clear = let other : nat_eq b 10 ≡ false = grind (arith, nat_tests, clear.0) in rw other (ap (λ (t : Text). b ∷ t) (dir_of-item dir name clear.1))

pub name_of-item : (dir name : Text) → IsClear dir → name_of (item dir name) ≡ name
name_of-item [] name clear = refl
name_of-item (b ∷ dir) name clear = let other : nat_eq b 10 ≡ false = grind (arith, nat_tests, clear.0) in rw other (name_of-item dir name clear.1)

less_nat : (a b : ℕ) → a < b → nat_cmp a b ≡ Less
less_nat a b lt = grind (arith, nat_tests)

same_nat : (a : ℕ) → nat_cmp a a ≡ Equal
same_nat a = grind (arith, nat_tests)

-- items of one directory are in the order of their names
pub item_names : (dir a b : Text) → order (item dir a) (item dir b) ≡ order a b
item_names [] a b = ap (λ (o : Ordering). ordering_then o (order a b)) (same_nat 10)
item_names (c ∷ dir) a b = ap (λ (o : Ordering). ordering_then o (order (item dir a) (item dir b))) (same_nat c) ∙ item_names dir a b

-- items of two directories are in the order of these
pub item_dirs : (d e a b : Text) → IsClear d → IsClear e → order d e ≡ Less → order (item d a) (item e b) ≡ Less
item_dirs [] [] a b clear clear' lt = absurd (cc)
item_dirs [] (y ∷ e) a b clear clear' lt = ap (λ (o : Ordering). ordering_then o (order a (item e b))) (less_nat 10 y clear'.0)
item_dirs (x ∷ d) [] a b clear clear' lt = absurd (cc)
item_dirs (x ∷ d) (y ∷ e) a b clear clear' lt = by (nat_cmp x y) lt (item_dirs d e a b clear.1 clear'.1)
  where
    by : (o : Ordering) → ordering_then o (order d e) ≡ Less → (order d e ≡ Less → order (item d a) (item e b) ≡ Less) → ordering_then o (order (item d a) (item e b)) ≡ Less
    by Less lt more = refl
    by Equal lt more = more lt
    by Greater lt more = absurd (cc)

-- a text comes before what it begins
pub front_less : (a : Text) (b : ℕ) (c : Text) → order a (a ++ b ∷ c) ≡ Less
front_less [] b c = refl
front_less (x ∷ a) b c = ap (λ (o : Ordering). ordering_then o (order a (a ++ b ∷ c))) (same_nat x) ∙ front_less a b c

-- ---- components

abbrev pub slash : ℕ → Bool
slash b = nat_eq b 47

-- a name has no '/'
abbrev pub IsName : Text → Type 0
IsName name = AllByRecursion (λ b. slash b ≡ false) name

components-name : (name : Text) → IsName name → components name ≡ name ∷ []
components-name [] is = refl
components-name (b ∷ name) is = rw is.0 (ap (onto_first b) (components-name name is.1))

onto_more : (b : ℕ) (x : Text) (xs ys : List Text) → onto_first b ((x ∷ xs) ++ ys) ≡ onto_first b (x ∷ xs) ++ ys
onto_more b x xs ys = refl

onto_append : (b : ℕ) (text : Text) (ys : List Text) → onto_first b (components text ++ ys) ≡ onto_first b (components text) ++ ys
onto_append b [] ys = refl
onto_append b (c ∷ text) ys = by (slash c) (components text)
  where
    by : (t : Bool) (cs : List Text) → onto_first b (cond t ([] ∷ cs) (onto_first c cs) ++ ys) ≡ onto_first b (cond t ([] ∷ cs) (onto_first c cs)) ++ ys
    by true cs = refl
    by false [] = refl
    by false (d ∷ cs) = refl

-- one component more
pub components-in : (dir name : Text) → IsName name → components (path_in dir name) ≡ components dir ++ name ∷ []
components-in [] name is = ap (λ (cs : List Text). [] ∷ cs) (components-name name is)
components-in (b ∷ dir) name is = by (slash b) (components-in dir name is)
  where
    by : (t : Bool) → components (path_in dir name) ≡ components dir ++ name ∷ []
        → cond t ([] ∷ components (path_in dir name)) (onto_first b (components (path_in dir name))) ≡ cond t ([] ∷ components dir) (onto_first b (components dir)) ++ name ∷ []
    by true more = ap (λ (cs : List Text). [] ∷ cs) more
    by false more = ap (onto_first b) more ∙ onto_append b dir (name ∷ [])

-- the path of names, each in the one before it
abbrev pub joined : Text → List Text → Text
joined dir [] = dir
joined dir (name ∷ names) = joined (path_in dir name) names

pub joined-more : (dir : Text) (names : List Text) (name : Text) → joined dir (names ++ name ∷ []) ≡ path_in (joined dir names) name
joined-more dir [] name = refl
joined-more dir (next ∷ names) name = joined-more (path_in dir next) names name

pub items_below-more : (dir : Text) (names : List Text) (name : Text) → items_below dir (names ++ name ∷ []) ≡ items_below dir names ++ item (joined dir names) name ∷ []
items_below-more dir [] name = refl
items_below-more dir (next ∷ names) name = ap (λ (its : List Text). item dir next ∷ its) (items_below-more (path_in dir next) names name)
