-- Which names are listed of some.
use Rattle.std.proofs.Common.{◌≡◌, ◌≢◌, ◌<◌, ◌||◌, not, Bool, true, false, cond, List, [], ◌∷◌, ◌++◌, length, refl, sym, ap, subst, ◌∙◌, arith}
use Rattle.std.specs.Prelude.{filter, bytes_eq}
use Rattle.std.specs.List.{AllByRecursion, list_any}
use Rattle.std.specs.List.Sorted.{IsStrictlySortedBy}
use Rattle.std.specs.Ordering.{nat_cmp}
use Rattle.std.specs.Cmp.Lexicographic.{slice_cmp, same_text}
use Rattle.std.proofs.lemmas.Bool.{true≢false, and_parts, and_from}
use Rattle.std.proofs.lemmas.List.Kept.{IsStrictlySortedBy-filter}
use Rattle.std.proofs.lemmas.Map.Views.{any-filter_same}
use Rattle.std.specs.declared.cmp.Ordering.TheVariants.{Less}
use Rattle.tl_model.specs.Volume.{Name, IsBefore}
use Rattle.tl_path.specs.Path.{IsPath}
use Rattle.tl_path.specs.Components.{components, is_below, is_proper_front}
use Rattle.tl_lsr.specs.Items.{folder}
use Rattle.tl_lsr.specs.Lists.{list_path, AreListable}
use Rattle.tl_publish.specs.Listable.{is_inside, is_lowest, listable, AreInside}

-- ---- fronts of lists of components

front_trans : (a b c : List Name) → is_proper_front a b ≡ true → is_proper_front b c ≡ true → is_proper_front a c ≡ true
front_trans [] [] c ab bc = absurd (true≢false (sym ab))
front_trans [] (y ∷ b) [] ab bc = absurd (true≢false (sym bc))
front_trans [] (y ∷ b) (z ∷ c) ab bc = refl
front_trans (x ∷ a) [] c ab bc = absurd (true≢false (sym ab))
front_trans (x ∷ a) (y ∷ b) [] ab bc = absurd (true≢false (sym bc))
front_trans (x ∷ a) (y ∷ b) (z ∷ c) ab bc =
    let first = and_parts (bytes_eq x y) (is_proper_front a b) ab in
    let second = and_parts (bytes_eq y z) (is_proper_front b c) bc in
    and_from (bytes_eq x z) (is_proper_front a c) (subst (λ (t : Name). bytes_eq t z ≡ true) (sym (same_text x y (sym first.0))) second.0) (front_trans a b c first.1 second.1)

front_shorter : (a b : List Name) → is_proper_front a b ≡ true → length a < length b
front_shorter [] [] is = absurd (true≢false (sym is))
front_shorter [] (y ∷ b) is = omega arith
front_shorter (x ∷ a) [] is = absurd (true≢false (sym is))
front_shorter (x ∷ a) (y ∷ b) is = let less = front_shorter a b (and_parts (bytes_eq x y) (is_proper_front a b) is).1 in omega (arith, less)

not_true : (b : Bool) → not b ≡ true → b ≡ false
not_true true is = absurd (true≢false (sym is))
not_true false is = refl

not_same : (name : Name) → not (bytes_eq name list_path) ≡ true → name ≢ list_path
not_same name other is = true≢false (sym (ap (λ (n : Name). bytes_eq n list_path) is) ∙ not_true (bytes_eq name list_path) other)

-- the list isn't below a name that is below the folder
list_is_high : (name : Name) → is_below name folder ≡ true → is_below list_path name ≡ true → ⊥
list_is_high name under over =
    let low = front_shorter (components folder) (components name) under in
    let high = front_shorter (components name) (components list_path) over in
    let one : length (components folder) ≡ 1 = refl in
    let two : length (components list_path) ≡ 2 = refl in
    omega (arith, low, high, one, two)

-- what is below a name inside is inside
inside_below : (name other : Name) → is_inside name ≡ true → is_below other name ≡ true → is_inside other ≡ true
inside_below name other is under =
    let parts = and_parts (is_below name folder) (not (bytes_eq name list_path)) is in
    and_from (is_below other folder) (not (bytes_eq other list_path)) (front_trans (components folder) (components name) (components other) parts.0 under) (by (bytes_eq other list_path) refl)
  where
    by : (b : Bool) → bytes_eq other list_path ≡ b → not b ≡ true
    by true same = absurd (list_is_high name (and_parts (is_below name folder) (not (bytes_eq name list_path)) is).0 (subst (λ (n : Name). is_below n name ≡ true) (same_text other list_path (sym same)) under))
    by false apart = refl

filter_same : (p q : Name → Bool) → ((name : Name) → is_inside name ≡ true → p name ≡ q name) → (names : List Name) → filter p (filter is_inside names) ≡ filter q (filter is_inside names)
filter_same p q same [] = refl
filter_same p q same (name ∷ names) = by (is_inside name) refl (filter_same p q same names)
  where
    by : (b : Bool) → is_inside name ≡ b → filter p (filter is_inside names) ≡ filter q (filter is_inside names)
        → filter p (cond b (name ∷ filter is_inside names) (filter is_inside names)) ≡ filter q (cond b (name ∷ filter is_inside names) (filter is_inside names))
    by true is rest = ap (λ (b : Bool). cond b (name ∷ filter p (filter is_inside names)) (filter p (filter is_inside names))) (same name is) ∙ ap (λ (l : List Name). cond (q name) (name ∷ l) l) rest
    by false is rest = rest

-- the names that are listed, by those inside alone
pub listable-inside : (names : List Name) → filter (is_lowest (filter is_inside names)) (filter is_inside names) ≡ listable names
listable-inside names = filter_same (is_lowest (filter is_inside names)) (is_lowest names)
    (λ name is. ap not (any-filter_same (λ (other : Name). is_below other name) is_inside true (λ other under. inside_below name other is under) names)) names

-- ---- names that are inside, and listable

all_filter : (P : Name → Type 0) (p : Name → Bool) (names : List Name) → AllByRecursion P names → AllByRecursion P (filter p names)
all_filter P p [] all = tt
all_filter P p (name ∷ names) all = by (p name) (all_filter P p names all.1)
  where
    by : (b : Bool) → AllByRecursion P (filter p names) → AllByRecursion P (cond b (name ∷ filter p names) (filter p names))
    by true rest = (all.0, rest)
    by false rest = rest

all_map : (P Q : Name → Type 0) (names : List Name) → ((name : Name) → P name → Q name) → AllByRecursion P names → AllByRecursion Q names
all_map P Q [] f all = tt
all_map P Q (name ∷ names) f all = (f name all.0, all_map P Q names f all.1)

or_false : (a b : Bool) → (a || b) ≡ false → (a ≡ false) × (b ≡ false)
or_false true b is = absurd (true≢false is)
or_false false b is = (refl, is)

-- what no test finds among all isn't found among some
abbrev Among : List Name → Name → Type 0
Among names name = (q : Name → Bool) → list_any q names ≡ false → q name ≡ false

each_among : (some names : List Name) → ((q : Name → Bool) → list_any q names ≡ false → list_any q some ≡ false) → AllByRecursion (Among names) some
each_among [] names none = tt
each_among (name ∷ some) names none =
    (λ q is. (or_false (q name) (list_any q some) (none q is)).0, each_among some names (λ q is. (or_false (q name) (list_any q some) (none q is)).1))

-- no name is below one of which none is
apart_from : (names some : List Name) (name : Name) → Among names name → AllByRecursion (λ other. is_below name other ≡ false) (filter (is_lowest names) some)
apart_from names [] name among = tt
apart_from names (other ∷ some) name among = by (is_lowest names other) refl (apart_from names some name among)
  where
    by : (b : Bool) → is_lowest names other ≡ b → AllByRecursion (λ o. is_below name o ≡ false) (filter (is_lowest names) some)
        → AllByRecursion (λ o. is_below name o ≡ false) (cond b (other ∷ filter (is_lowest names) some) (filter (is_lowest names) some))
    by true is rest = (among (λ n. is_below n other) (not_true (list_any (λ n. is_below n other) names) is), rest)
    by false is rest = rest

-- those of some names inside that have none of the others below them can be listed
pub lowest-listable : (names : List Name) → AreInside names → AreListable (filter (is_lowest names) names)
lowest-listable names are = record {
  form = all_filter IsPath (is_lowest names) names are.form;
  inside = all_filter (λ (n : Name). is_below n folder ≡ true) (is_lowest names) names are.inside;
  others = all_filter (λ (n : Name). n ≢ list_path) (is_lowest names) names are.others;
  rising = IsStrictlySortedBy-filter (slice_cmp nat_cmp) (is_lowest names) names are.rising;
  apart = all_map (Among names) (λ (a : Name). AllByRecursion (λ (b : Name). is_below a b ≡ false) (filter (is_lowest names) names)) (filter (is_lowest names) names)
      (λ a among. apart_from names names a among) (all_filter (Among names) (is_lowest names) names (each_among names names (λ q is. is)));
}

-- ---- one name more

all_push : (P : Name → Type 0) (names : List Name) (name : Name) → AllByRecursion P names → P name → AllByRecursion P (names ++ name ∷ [])
all_push P [] name all here = (here, tt)
all_push P (n ∷ names) name all here = (all.0, all_push P names name all.1 here)

sorted_push : (names : List Name) (name : Name) → IsStrictlySortedBy (slice_cmp nat_cmp) names → AllByRecursion (λ n. IsBefore n name) names → IsStrictlySortedBy (slice_cmp nat_cmp) (names ++ name ∷ [])
unfolding IsStrictlySortedBy
sorted_push [] name up before = (tt, tt)
sorted_push (n ∷ names) name up before = (all_push (λ m. slice_cmp nat_cmp n m ≡ Less) names name up.0 before.0, sorted_push names name up.1 before.1)

pub inside_none : AreInside []
unfolding IsStrictlySortedBy
inside_none = record { form = tt; inside = tt; others = tt; rising = tt }

-- a name inside that comes behind all others
pub inside_push : (names : List Name) (name : Name) → IsPath name → is_inside name ≡ true → AllByRecursion (λ n. IsBefore n name) names → AreInside names → AreInside (names ++ name ∷ [])
inside_push names name form is before are =
    let parts = and_parts (is_below name folder) (not (bytes_eq name list_path)) is in
    record {
      form = all_push IsPath names name are.form form;
      inside = all_push (λ (n : Name). is_below n folder ≡ true) names name are.inside parts.0;
      others = all_push (λ (n : Name). n ≢ list_path) names name are.others (not_same name parts.1);
      rising = sorted_push names name are.rising before;
    }
