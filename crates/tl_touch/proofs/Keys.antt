-- The names of a volume in their order, one after another.
use Rattle.std.proofs.Common.{◌≡◌, ℕ, Bool, true, false, ◌||◌, ◌&&◌, List, [], ◌∷◌, ◌++◌, map, refl, sym, ap, subst, ◌∙◌, inl, inr}
use Rattle.std.specs.Prelude.{Option, Some, None, IsSome, MatchOption}
use Rattle.std.specs.Option.{is_some}
use Rattle.std.specs.FinMap as finite
use Rattle.std.specs.FinMap.Entries.{below_all, is_sorted}
use Rattle.std.specs.List.{list_any, AllByRecursion}
use Rattle.std.specs.Ordering.{nat_cmp, is_lt, is_eq, eq_by_cmp}
use Rattle.std.specs.declared.cmp.Ordering.{Ordering}
use Rattle.std.specs.declared.cmp.Ordering.TheVariants.{Less, Equal, Greater}
use Rattle.std.specs.Cmp.Lexicographic.{slice_cmp, nat_list_cmp_total}
use Rattle.std.proofs.lemmas.Bool.{cases_Bool, true≢false}
use lib.Dec.{T}
use Rattle.tl_model.specs.Volume.{Name, Volume, at, same_name, same_name-is, same_name-refl, IsAfter, IsBefore, IsNext}

-- the last of some names
abbrev pub last_of : List Name → Option Name
last_of [] = None
last_of (name ∷ []) = Some name
last_of (name ∷ next ∷ names) = last_of (next ∷ names)

-- each name comes before those behind it
abbrev Rises : List Name → Type 0
Rises [] = Unit {0}
Rises (name ∷ names) = AllByRecursion (IsBefore name) names × Rises names

abbrev Entry : Type 0
Entry = Name × List ℕ

both_true : (a b : Bool) → T (a && b) → T a × T b
both_true true b t = (tt, t)
both_true false b t = absurd t

is_less : (r : Ordering) → T (is_lt r) → r ≡ Less
is_less Less t = refl
is_less Equal t = absurd t
is_less Greater t = absurd t

below_rises : (name : Name) (es : List Entry) → T (below_all (slice_cmp nat_cmp) name es) → AllByRecursion (IsBefore name) (map (λ (e : Entry). e.0) es)
below_rises name [] t = tt
below_rises name (e ∷ es) t =
    let parts = both_true (is_lt (slice_cmp nat_cmp name e.0)) (below_all (slice_cmp nat_cmp) name es) t in
    (is_less _ parts.0, below_rises name es parts.1)

sorted_rises : (es : List Entry) → T (is_sorted (slice_cmp nat_cmp) es) → Rises (map (λ (e : Entry). e.0) es)
sorted_rises [] t = tt
sorted_rises (e ∷ es) t =
    let parts = both_true (below_all (slice_cmp nat_cmp) e.0 es) (is_sorted (slice_cmp nat_cmp) es) t in
    (below_rises e.0 es (parts.0), sorted_rises es parts.1)

keys_rise : (volume : Volume) → Rises (finite.keys volume)
keys_rise volume = sorted_rises (finite.entries volume) (finite.entries_sorted volume)

-- whether a name is among some
abbrev is_among : Name → List Name → Bool
is_among name names = list_any (eq_by_cmp (slice_cmp nat_cmp) name) names

among-append : (name : Name) (xs ys : List Name) → is_among name (xs ++ ys) ≡ (is_among name xs || is_among name ys)
among-append name [] ys = refl
among-append name (x ∷ xs) ys = by (same_name name x) (among-append name xs ys)
  where
    by : (b : Bool) → is_among name (xs ++ ys) ≡ (is_among name xs || is_among name ys) → (b || is_among name (xs ++ ys)) ≡ ((b || is_among name xs) || is_among name ys)
    by true rest = refl
    by false rest = rest

before_apart : (a b : Name) → IsBefore a b → same_name b a ≡ false
before_apart a b before = elim (cases_Bool (same_name b a)) [
  | inl is ↦ absurd (true≢false (sym (same_name-refl a) ∙ ap is_eq (subst (λ (n : Name). slice_cmp nat_cmp a n ≡ Less) (same_name-is b a is) before)))
  | inr apart ↦ apart
]

none_among : (name : Name) (names : List Name) → AllByRecursion (λ (n : Name). IsBefore n name) names → is_among name names ≡ false
none_among name [] all = refl
none_among name (n ∷ names) all = ap (λ b. b || is_among name names) (before_apart n name all.0) ∙ none_among name names all.1

last_after : (seen : List Name) (name : Name) (more : List Name) → Rises (seen ++ name ∷ more) → IsAfter (last_of seen) name
last_after [] name more up = tt
last_after (s ∷ []) name more up = up.0.0
last_after (s ∷ t ∷ seen) name more up = last_after (t ∷ seen) name more up.1

all_before : (seen rest : List Name) (name : Name) → Rises (seen ++ rest) → IsAfter (last_of seen) name → AllByRecursion (λ (n : Name). IsBefore n name) seen
all_before [] rest name up after = tt
all_before (s ∷ []) rest name up after = (after, tt)
all_before (s ∷ t ∷ seen) rest name up after =
    let others = all_before (t ∷ seen) rest name up.1 after in
    (nat_list_cmp_total.trans s t name up.0.0 others.0, others)

behind : (seen : List Name) (name : Name) (more : List Name) → Rises (seen ++ name ∷ more) → AllByRecursion (IsBefore name) more
behind [] name more up = up.0
behind (s ∷ seen) name more up = behind seen name more up.1

before_member : (name w : Name) (names : List Name) → AllByRecursion (IsBefore name) names → is_among w names ≡ true → IsBefore name w
before_member name w [] all there = absurd (true≢false (sym there))
before_member name w (n ∷ names) all there = elim (cases_Bool (same_name w n)) [
  | inl is ↦ subst (λ (m : Name). IsBefore name m) (sym (same_name-is w n is)) all.0
  | inr apart ↦ before_member name w names all.1 (ap (λ b. b || is_among w names) (sym apart) ∙ there)
]

or_second : (a b : Bool) → (a || b) ≡ true → a ≡ false → b ≡ true
or_second true b is none = absurd (true≢false none)
or_second false b is none = is

some_not_none : (found : Option (List ℕ)) → is_some found ≡ true → found ≡ None → ⊥
some_not_none None there none = true≢false (sym there)
some_not_none (Some bytes) there none = absurd (cc)

-- a name among those of a volume is there
there : (volume : Volume) (seen : List Name) (name : Name) (more : List Name) → finite.keys volume ≡ seen ++ name ∷ more → is_some (at volume name) ≡ true
there volume seen name more is =
    finite.contains_key-keys volume name ∙ ap (is_among name) is ∙ among-append name seen (name ∷ more)
    ∙ ap (λ b. is_among name seen || (b || is_among name more)) (same_name-refl name) ∙ or_true (is_among name seen)
  where
    or_true : (b : Bool) → (b || true) ≡ true
    or_true true = refl
    or_true false = refl

is_some_from : (found : Option (List ℕ)) → IsSome found → is_some found ≡ true
is_some_from None some = absurd (true≢false (sym some))
is_some_from (Some bytes) some = refl

-- behind some names of a volume stands the next one
pub next_key : (volume : Volume) (seen rest : List Name) (found : Option Name) → finite.keys volume ≡ seen ++ rest → IsNext volume (last_of seen) found
    → MatchOption found (rest ≡ []) (λ name. (more : List Name) × (rest ≡ name ∷ more))
next_key volume seen [] None is next = refl
next_key volume seen (n ∷ more) None is next =
    let up : Rises (seen ++ n ∷ more) = subst Rises is (keys_rise volume) in
    absurd (some_not_none (at volume n) (there volume seen n more is) (next n (last_after seen n more up)))
next_key volume seen [] (Some name) is next =
    let up : Rises (seen ++ []) = subst Rises is (keys_rise volume) in
    let among : is_among name (seen ++ []) ≡ true = ap (is_among name) (sym is) ∙ sym (finite.contains_key-keys volume name) ∙ is_some_from (at volume name) next.0 in
    let none : is_among name seen ≡ false = none_among name seen (all_before seen [] name up next.1) in
    absurd (true≢false (sym (or_second _ _ (sym (among-append name seen []) ∙ among) none)))
next_key volume seen (n ∷ more) (Some name) is next =
    let up : Rises (seen ++ n ∷ more) = subst Rises is (keys_rise volume) in
    let among : is_among name (seen ++ n ∷ more) ≡ true = ap (is_among name) (sym is) ∙ sym (finite.contains_key-keys volume name) ∙ is_some_from (at volume name) next.0 in
    let none : is_among name seen ≡ false = none_among name seen (all_before seen (n ∷ more) name up next.1) in
    let here : is_among name (n ∷ more) ≡ true = or_second _ _ (sym (among-append name seen (n ∷ more)) ∙ among) none in
    elim (cases_Bool (same_name name n)) [
      | inl same ↦ (more, ap (λ (m : Name). m ∷ more) (sym (same_name-is name n same)))
      | inr apart ↦
          let later : is_among name more ≡ true = or_second _ _ here apart in
          let before : IsBefore n name = before_member n name more (behind seen n more up) later in
          absurd (some_not_none (at volume n) (there volume seen n more is) (next.2 n (last_after seen n more up) before))
    ]
