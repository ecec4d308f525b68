-- Names of which none behind is below them.
use Rattle.std.proofs.Common.{◌≡◌, ◌||◌, not, Bool, true, false, cond, List, [], ◌∷◌, ◌++◌, refl, sym, ap, subst, ◌∙◌, append_assoc}
use Rattle.std.specs.Prelude.{filter}
use Rattle.std.specs.List.{AllByRecursion, list_any}
use Rattle.std.specs.List.Sorted.{IsStrictlySortedBy}
use Rattle.std.specs.Ordering.{nat_cmp, is_lt}
use Rattle.std.specs.declared.cmp.Ordering.TheVariants.{Less}
use Rattle.std.specs.Cmp.{tied_itself}
use Rattle.std.specs.Cmp.Lexicographic.{slice_cmp, nat_list_cmp_total}
use Rattle.std.proofs.lemmas.Bool.{true≢false}
use Rattle.std.proofs.lemmas.List.Folds.{list_any-append}
use Rattle.tl_model.specs.Volume.{Name}
use Rattle.tl_path.specs.Components.{is_below}
use Rattle.tl_publish.specs.Listable.{is_lowest}
use Rattle.tl_publish.proofs.BelowLemmas.{order, below_behind, comes_between, none_behind}

abbrev pub Rises : List Name → Type 0
Rises names = IsStrictlySortedBy (slice_cmp nat_cmp) names

-- whether one of some names is below a name
abbrev pub has_below : List Name → Name → Bool
has_below names name = list_any (λ other. is_below other name) names

-- the name, unless one of those behind it is below it
abbrev pub kept_one : Name → List Name → List Name
kept_one name behind = cond (has_below behind name) [] (name ∷ [])

-- those of some names of which none behind is below them
abbrev pub kept_of : List Name → List Name
kept_of [] = []
kept_of (name ∷ names) = kept_one name names ++ kept_of names

-- ---- the names behind one

pub without_first : (name other : Name) (rest others : List Name) → rest ≡ other ∷ others → Rises (name ∷ rest) → Rises (name ∷ others)
unfolding IsStrictlySortedBy
without_first name other rest others is up =
    let all = subst (λ (l : List Name). Rises (name ∷ l)) is up in (all.0.1, all.1.1)

pub first_below : (name other : Name) (rest others : List Name) → rest ≡ other ∷ others → is_below other name ≡ true → has_below rest name ≡ true
first_below name other rest others is under = ap (λ (l : List Name). has_below l name) is ∙ ap (λ b. b || has_below others name) under

pub first_apart : (name other : Name) (rest others : List Name) → rest ≡ other ∷ others → is_below other name ≡ false → has_below rest name ≡ has_below others name
first_apart name other rest others is apart = ap (λ (l : List Name). has_below l name) is ∙ ap (λ b. b || has_below others name) apart

none_below : (name first : Name) (others : List Name) → order name first ≡ Less → AllByRecursion (λ other. order first other ≡ Less) others → is_below first name ≡ false → comes_between first name ≡ false
    → has_below others name ≡ false
none_below name first [] up all apart past = refl
none_below name first (other ∷ others) up all apart past = ap (λ b. b || has_below others name) (none_behind name first other up all.0 apart past) ∙ none_below name first others up all.1 apart past

-- where the first one is past the names below
pub none_more : (name other : Name) (rest others : List Name) → rest ≡ other ∷ others → Rises (name ∷ rest) → is_below other name ≡ false → comes_between other name ≡ false → has_below rest name ≡ false
unfolding IsStrictlySortedBy
none_more name other rest others is up apart past =
    let all = subst (λ (l : List Name). Rises (name ∷ l)) is up in
    first_apart name other rest others is apart ∙ none_below name other others all.0.0 all.1.0 apart past

-- ---- all names

not_below : (name other : Name) → order other name ≡ Less → is_below other name ≡ false
not_below name other less = by (is_below other name) refl
  where
    by : (b : Bool) → is_below other name ≡ b → b ≡ false
    by true under =
        let round : order name name ≡ Less = nat_list_cmp_total.trans name other name (below_behind name other under) less in
        absurd (true≢false (sym (ap is_lt round) ∙ ap is_lt (tied_itself nat_list_cmp_total name)))
    by false apart = refl

none_in_front : (name : Name) (front : List Name) → AllByRecursion (λ other. order other name ≡ Less) front → has_below front name ≡ false
none_in_front name [] all = refl
none_in_front name (other ∷ front) all = ap (λ b. b || has_below front name) (not_below name other all.0) ∙ none_in_front name front all.1

not_itself : (name : Name) → is_below name name ≡ false
not_itself name = by (is_below name name) refl
  where
    by : (b : Bool) → is_below name name ≡ b → b ≡ false
    by true under = absurd (true≢false (sym (ap is_lt (below_behind name name under)) ∙ ap is_lt (tied_itself nat_list_cmp_total name)))
    by false apart = refl

front_before : (front : List Name) (name : Name) (names : List Name) → Rises (front ++ name ∷ names) → AllByRecursion (λ other. order other name ≡ Less) front
unfolding IsStrictlySortedBy
front_before [] name names up = tt
front_before (f ∷ front) name names up = (at front up.0, front_before front name names up.1)
  where
    at : (front : List Name) → AllByRecursion (λ y. order f y ≡ Less) (front ++ name ∷ names) → order f name ≡ Less
    at [] all = all.0
    at (g ∷ front) all = at front all.1

-- among names in order, only those behind a name may be below it
only_behind : (front : List Name) (name : Name) (names : List Name) → Rises (front ++ name ∷ names) → has_below (front ++ name ∷ names) name ≡ has_below names name
only_behind front name names up =
    list_any-append (λ other. is_below other name) front (name ∷ names)
    ∙ ap (λ b. b || (is_below name name || has_below names name)) (none_in_front name front (front_before front name names up))
    ∙ ap (λ b. b || has_below names name) (not_itself name)

kept_same : (b : Bool) (name : Name) (rest : List Name) → cond (not b) (name ∷ rest) rest ≡ cond b [] (name ∷ []) ++ rest
kept_same true name rest = refl
kept_same false name rest = refl

kept_from : (front names all : List Name) → all ≡ front ++ names → Rises all → filter (is_lowest all) names ≡ kept_of names
kept_from front [] all is up = refl
kept_from front (name ∷ names) all is up =
    let below : has_below all name ≡ has_below names name =
    ap (λ (l : List Name). has_below l name) is ∙ only_behind front name names (subst Rises is up) in
    ap (λ (b : Bool). cond (not b) (name ∷ filter (is_lowest all) names) (filter (is_lowest all) names)) below
    ∙ kept_same (has_below names name) name (filter (is_lowest all) names)
    ∙ ap (λ (l : List Name). kept_one name names ++ l) (kept_from (front ++ name ∷ []) names all (is ∙ sym (append_assoc front (name ∷ []) names)) up)

-- those that have none of the others below them
pub kept-lowest : (names : List Name) → Rises names → filter (is_lowest names) names ≡ kept_of names
kept-lowest names up = kept_from [] names names refl up

-- one name more
pub kept_more : (kept next rest behind all : List Name) (name : Name) → rest ≡ name ∷ behind → next ≡ kept ++ kept_one name behind → kept ++ kept_of rest ≡ all → next ++ kept_of behind ≡ all
kept_more kept next rest behind all name is grown so_far =
    ap (λ (l : List Name). l ++ kept_of behind) grown ∙ append_assoc kept (kept_one name behind) (kept_of behind) ∙ ap (λ (l : List Name). kept ++ kept_of l) (sym is) ∙ so_far

pub behind_rises : (name : Name) (rest behind : List Name) → rest ≡ name ∷ behind → Rises rest → Rises behind
unfolding IsStrictlySortedBy
behind_rises name rest behind is up = (subst Rises is up).1
