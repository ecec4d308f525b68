-- Where no path that comes touches another one, each comes once; and what else follows where a plan isn't refused.
use Rattle.std.proofs.Common.{◌≡◌, ◌≤◌, ◌+◌, Bool, true, false, cond, not, ◌||◌, ◌&&◌, List, [], ◌∷◌, ◌++◌, Option, Some, None, refl, sym, ap, ◌∙◌, arith, inl, inr}
use Rattle.std.specs.Prelude.{nat_le, find, filter, option_map}
use Rattle.std.specs.List.{list_any, count_by, flat_map, cons_option, AllByRecursion}
use Rattle.std.specs.Option.{option_or}
use Rattle.std.specs.Str.{bytes_eq}
use Rattle.std.specs.Cmp.Lexicographic.{texts_ties, nat_list_eq_equiv}
use Rattle.std.specs.Cmp.{IsEquivalence}
use Rattle.std.proofs.Math.Path.{fun_ext}
use Rattle.std.proofs.lemmas.Bool.{cases_Bool, true≢false, false_from_ne_true, or_right}
use Rattle.std.proofs.lemmas.List.Sums.{sum_by-cons}
use Rattle.tl_model.specs.Volume.{Name, Volume, same_name, same_name-is, same_name-refl}
use Rattle.tl_path.specs.Reserved.{is_reserved}
use Rattle.tl_path.specs.Components.{is_below, is_touching}
use Rattle.tl_entry.specs.Rising.{has_key}
use Rattle.tl_entry.specs.FilePaths.{listed_paths, file_paths}
use Rattle.tl_entry.proofs.SetLemmas.{has-rising_of}
use Rattle.tl_entry.specs.declared.object.Object.{Object}
use Rattle.tl_db.specs.declared.repo.Repo.{Repo}
use Rattle.tl_tree.specs.Changes.{own, listed}
use Rattle.tl_tree.specs.Owners.{name_of}
use Rattle.tl_tree.specs.Staged.{has_name}
use Rattle.tl_tree.proofs.Distinct.{AreOnce, has_either, once-nil, once-cons, once-append}
use Rattle.tl_touch.proofs.Touching.{among_either, any_at}
use Rattle.tl_coming.proofs.ClashLaws.{same_listed}
use Rattle.tl_coming.proofs.CutLaws.{le_isnt, le_on, le_off}
use Rattle.tl_coming.specs.Made.{OwnsListed}
use Rattle.tl_plan.specs.Plans.{is_any_touching}
use Rattle.tl_plan.specs.Removal.{is_among}
use Rattle.tl_plan.proofs.SetLaws.{any_flat}
use Rattle.tl_coming.specs.Parts.{listed_or_none, part_entry, paths_with}
use Rattle.tl_coming.specs.Planning.{plan_entries}
use Rattle.tl_coming.specs.Refused.{first_of, bad_execute, reserved_path, tree_fault, second_with, clash_at, clash, owned_at, owned_path, entries_fault, coming_fault}
use Rattle.tl_coming.specs.declared.error.ComingError.{ComingError}
use Rattle.tl_coming.specs.declared.error.ComingError.TheVariants.{Clash, Owned, Reserved}
use Rattle.tl_coming.specs.declared.part.PlanPart.{PlanPart}

-- a path that is in a list touches one of it
pub touches_name : (path : Name) (paths : List Name) → has_name path paths ≡ true → list_any (is_touching path) paths ≡ true
touches_name path [] has = has
touches_name path (p ∷ paths) has = elim (cases_Bool (same_name path p)) [
  | inl same ↦ ap (λ t. is_touching t p || list_any (is_touching path) paths) (same_name-is path p same) ∙ ap (λ t. t || list_any (is_touching path) paths) (itself p)
  | inr apart ↦ ap (λ t. is_touching path p || t) (touches_name path paths (ap (λ t. t || has_name path paths) (sym apart) ∙ has)) ∙ or_right (is_touching path p) true refl
]
  where
    itself : (p : Name) → is_touching p p ≡ true
    itself p = let laws : IsEquivalence bytes_eq = nat_list_eq_equiv in ap (λ t. t || (is_below p p || is_below p p)) (laws.refl p)

-- the same with one path among others before
pub touch_any : (path : Name) (paths files : List Name) → has_name path paths ≡ true → has_name path files ≡ true → is_any_touching paths files ≡ true
touch_any path [] files has here = absurd (true≢false (sym has))
touch_any path (p ∷ paths) files has here = elim (cases_Bool (same_name path p)) [
  | inl same ↦ ap (λ t. t || is_any_touching paths files) (ap (λ (q : Name). list_any (is_touching q) files) (sym (same_name-is path p same)) ∙ touches_name path files here)
  | inr apart ↦ ap (λ t. list_any (is_touching p) files || t) (touch_any path paths files (ap (λ t. t || has_name path paths) (sym apart) ∙ has) here)
      ∙ or_right (list_any (is_touching p) files) true refl
]

pub same_among : (name : Name) (all : List Name) → is_among name all ≡ has_name name all
same_among name [] = refl
same_among name (n ∷ all) = ap (λ t. t || is_among name all) (texts_ties name n) ∙ ap (λ t. same_name name n || t) (same_among name all)

same_key : (name : Name) (all : List Name) → has_key (λ n. n) name all ≡ has_name name all
same_key name all = sym (among_either name all) ∙ same_among name all

-- where nothing is found, nothing passes
pub unfound : {X : Type 0} (test : X → Bool) (fault : X → ComingError) (xs : List X) → option_map fault (find test xs) ≡ None → list_any test xs ≡ false
unfound test fault [] none = refl
unfound test fault (x ∷ xs) none = by (test x) refl none (unfound test fault xs)
  where
    by : (t : Bool) → test x ≡ t → option_map fault (cond t (Some x) (find test xs)) ≡ None → (option_map fault (find test xs) ≡ None → list_any test xs ≡ false) → (test x || list_any test xs) ≡ false
    by true is none rest = absurd (cc)
    by false is none rest = ap (λ b. b || list_any test xs) is ∙ rest none

unfound_name : (test : Object → Bool) (xs : List Object) → option_map name_of (find test xs) ≡ None → list_any test xs ≡ false
unfound_name test [] none = refl
unfound_name test (x ∷ xs) none = by (test x) refl none (unfound_name test xs)
  where
    by : (t : Bool) → test x ≡ t → option_map name_of (cond t (Some x) (find test xs)) ≡ None → (option_map name_of (find test xs) ≡ None → list_any test xs ≡ false) → (test x || list_any test xs) ≡ false
    by true is none rest = absurd (cc)
    by false is none rest = ap (λ b. b || list_any test xs) is ∙ rest none

-- where the first of two faults is none, both are
pub neither_fault : (some other : Option ComingError) → option_or some other ≡ None → (some ≡ None) × (other ≡ None)
neither_fault None other none = (refl, none)
neither_fault (Some fault) other none = absurd (cc)

none_first : (fault : Name → Option ComingError) (paths : List Name) → first_of fault paths ≡ None → (path : Name) → has_name path paths ≡ true → fault path ≡ None
none_first fault [] none path has = absurd (true≢false (sym has))
none_first fault (p ∷ paths) none path has =
    let parts = neither_fault (fault p) (first_of fault paths) none in
    elim (cases_Bool (same_name path p)) [
      | inl same ↦ ap fault (same_name-is path p same) ∙ parts.0
      | inr apart ↦ none_first fault paths parts.1 path (ap (λ t. t || has_name path paths) (sym apart) ∙ has)
    ]

-- the paths of an entry, in order and as it lists them
in_order : (entry : Object) (path : Name) → has_name path (listed_paths entry) ≡ true → has_name path (file_paths entry) ≡ true
in_order entry path has = sym (same_key path (file_paths entry)) ∙ has-rising_of path (listed_paths entry) ∙ same_key path (listed_paths entry) ∙ has

-- a path that no second one touches, of its entry or of those behind it
record ComesOnce (path : Name) (entry : Object) (later : List Object) : Type 0 where
  few : nat_le 2 (count_by (is_touching path) (listed_paths entry)) ≡ false
  none : list_any (is_touching path) (flat_map listed_paths later) ≡ false

comes_once : (path : Name) (entry : Object) (later : List Object) → clash_at entry later path ≡ None → ComesOnce path entry later
unfolding second_with
comes_once path entry later none = by (nat_le 2 (count_by (is_touching path) (listed_paths entry))) refl none
  where
    touching : Object → Bool
    touching o = list_any (is_touching path) (listed_paths o)

    unmapped : (o : Option Name) → option_map (Clash path entry.name) o ≡ None → o ≡ None
    unmapped None none = refl
    unmapped (Some name) none = absurd (cc)

    by : (t : Bool) → nat_le 2 (count_by (is_touching path) (listed_paths entry)) ≡ t
        → option_map (Clash path entry.name) (cond t (Some entry.name) (option_map name_of (find (λ (o : Object). list_any (is_touching path) (listed_paths o)) later))) ≡ None → ComesOnce path entry later
    by true is none = absurd (cc)
    by false is none = record {
      few = is;
      none = any_flat (is_touching path) listed_paths later
          ∙ unfound_name (λ (o : Object). list_any (is_touching path) (listed_paths o)) later (unmapped (option_map name_of (find (λ (o : Object). list_any (is_touching path) (listed_paths o)) later)) none);
    }

some_counted : (p : Name → Bool) (xs : List Name) → list_any p xs ≡ true → 1 ≤ count_by p xs
some_counted p [] there = absurd (true≢false (sym there))
some_counted p (x ∷ xs) there = by (p x) refl there (some_counted p xs)
  where
    by : (t : Bool) → p x ≡ t → (t || list_any p xs) ≡ true → (list_any p xs ≡ true → 1 ≤ count_by p xs) → 1 ≤ count_by p (x ∷ xs)
    by true is there rest = let n = sum_by-cons (λ o. cond (p o) 1 0) x xs ∙ ap (λ t. cond t 1 0 + count_by p xs) is in omega (arith, n)
    by false is there rest =
        let n = sum_by-cons (λ o. cond (p o) 1 0) x xs ∙ ap (λ t. cond t 1 0 + count_by p xs) is in
        let m = rest there in omega (arith, n, m)

-- paths of which no two touch come once
once_counted : (xs : List Name) → ((x : Name) → has_name x xs ≡ true → nat_le 2 (count_by (is_touching x) xs) ≡ false) → AreOnce xs
once_counted [] few = once-nil
once_counted (x ∷ xs) few = once-cons x xs apart (once_counted xs (λ y has. fewer y (few y (or_right (same_name y x) (has_name y xs) has))))
  where
    here : has_name x (x ∷ xs) ≡ true
    here = let e = same_among x (x ∷ xs) in let laws : IsEquivalence bytes_eq = nat_list_eq_equiv in sym e ∙ ap (λ t. t || is_among x xs) (laws.refl x)

    touched : is_touching x x ≡ true
    touched = let laws : IsEquivalence bytes_eq = nat_list_eq_equiv in ap (λ t. t || (is_below x x || is_below x x)) (laws.refl x)

    fewer : (y : Name) → nat_le 2 (count_by (is_touching y) (x ∷ xs)) ≡ false → nat_le 2 (count_by (is_touching y) xs) ≡ false
    fewer y is = let n = sum_by-cons (λ o. cond (is_touching y o) 1 0) x xs in let m = le_isnt 2 (count_by (is_touching y) (x ∷ xs)) is in le_off 2 (count_by (is_touching y) xs) (omega (arith, n, m))

    apart : has_name x xs ≡ false
    apart = false_from_ne_true _ (λ has.
        let m = some_counted (is_touching x) xs (touches_name x xs has) in
        let n : count_by (is_touching x) (x ∷ xs) ≡ 1 + count_by (is_touching x) xs =
        sum_by-cons (λ o. cond (is_touching x o) 1 0) x xs ∙ ap (λ t. cond t 1 0 + count_by (is_touching x) xs) touched in
        let two : nat_le 2 (count_by (is_touching x) (x ∷ xs)) ≡ true = le_on 2 (count_by (is_touching x) (x ∷ xs)) (omega (arith, m, n)) in
        true≢false (sym two ∙ few x here))

-- where nothing clashes each path comes once
pub clash_once : (coming : List Object) → clash coming ≡ None → AreOnce (flat_map listed_paths coming)
clash_once [] none = once-nil
clash_once (entry ∷ later) none =
    let parts = neither_fault (first_of (clash_at entry later) (file_paths entry)) (clash later) none in
    let each : (path : Name) → has_name path (listed_paths entry) ≡ true → ComesOnce path entry later =
    λ path has. comes_once path entry later (none_first (clash_at entry later) (file_paths entry) parts.0 path (in_order entry path has)) in
    once-append (listed_paths entry) (flat_map listed_paths later) (once_counted (listed_paths entry) (λ path has. (each path has).few)) (clash_once later parts.1)
    (λ path has. false_from_ne_true _ (λ there. true≢false (sym (touches_name path (flat_map listed_paths later) there) ∙ (each path has).none)))

-- the paths that come with a plan are those of its entries
pub paths_entries : (repos : List Repo) (plan : List PlanPart) → flat_map (paths_with repos) plan ≡ flat_map listed_paths (plan_entries repos plan)
paths_entries repos [] = refl
paths_entries repos (part ∷ plan) = by (part_entry repos part) (paths_entries repos plan)
  where
    by : (o : Option Object) → flat_map (paths_with repos) plan ≡ flat_map listed_paths (plan_entries repos plan)
        → listed_or_none o ++ flat_map (paths_with repos) plan ≡ flat_map listed_paths (cons_option o (plan_entries repos plan))
    by None rest = rest
    by (Some e) rest = ap (λ (l : List Name). listed_paths e ++ l) rest

-- where no package outside owns what comes, no path that comes is owned
pub none_owned : (db : List Object) (names : List Name) (coming : List Object) → first_of (owned_path db names) coming ≡ None
    → (path : Name) → has_name path (flat_map listed_paths coming) ≡ true → owned_at db names path ≡ None
none_owned db names [] none path has = absurd (true≢false (sym has))
none_owned db names (entry ∷ coming) none path has =
    let parts = neither_fault (owned_path db names entry) (first_of (owned_path db names) coming) none in
    has_either path (listed_paths entry) (flat_map listed_paths coming)
    (λ here. none_first (owned_at db names) (file_paths entry) parts.0 path (in_order entry path here)) (none_owned db names coming parts.1 path) has

-- the faults of a plan by names that are the same ones
module _ (db : List Object) (some others : List Name) (same : (name : Name) → is_among name some ≡ is_among name others) where
  owned_alike : owned_path db some ≡ owned_path db others
  owned_alike = ap (λ (at : Name → Option ComingError). λ (entry : Object). first_of at (file_paths entry)) (fun_ext (λ path.
      ap (λ (test : Object → Bool). option_map (λ (entry : Object). Owned path entry.name) (find test db))
      (fun_ext (λ (entry : Object). ap (λ t. not t && list_any (is_touching path) (own entry)) (same entry.name)))))

  pub entries_alike : (coming : List Object) → entries_fault db some coming ≡ entries_fault db others coming
  entries_alike coming = ap (λ (at : Object → Option ComingError).
      option_or (first_of bad_execute coming) (option_or (first_of reserved_path coming) (option_or (clash coming) (first_of at coming)))) owned_alike

  pub coming_alike : (tree : Volume) (coming : List Object) → coming_fault db some tree coming ≡ coming_fault db others tree coming
  coming_alike tree coming = ap (λ (o : Option ComingError). option_or o (tree_fault db tree coming)) (entries_alike coming)

-- where no path is reserved, each is a file
unreserved : (coming : List Object) → first_of reserved_path coming ≡ None → AllByRecursion (λ (e : Object). own e ≡ listed e) coming
unreserved [] none = tt
unreserved (entry ∷ coming) none =
    let parts = neither_fault (reserved_path entry) (first_of reserved_path coming) none in
    (keeps_all (listed entry) (λ path has. apart entry parts.0 path has), unreserved coming parts.1)
  where
    keeps_all : (paths : List Name) → ((path : Name) → has_name path paths ≡ true → is_reserved path ≡ false) → filter (λ path. not (is_reserved path)) paths ≡ paths
    keeps_all [] none = refl
    keeps_all (p ∷ paths) none =
        ap (λ t. cond (not t) (p ∷ filter (λ path. not (is_reserved path)) paths) (filter (λ path. not (is_reserved path)) paths)) (none p (ap (λ t. t || has_name p paths) (same_name-refl p)))
        ∙ ap (λ (l : List Name). p ∷ l) (keeps_all paths (λ path has. none path (or_right (same_name path p) (has_name path paths) has)))

    apart : (entry : Object) → reserved_path entry ≡ None → (path : Name) → has_name path (listed entry) ≡ true → is_reserved path ≡ false
    apart entry none path has =
        let no : list_any is_reserved (file_paths entry) ≡ false = unfound is_reserved Reserved (file_paths entry) none in
        false_from_ne_true _ (λ is. true≢false (sym (any_at is_reserved path (file_paths entry)
        (has-rising_of path (listed_paths entry) ∙ same_key path (listed_paths entry) ∙ ap (has_name path) (same_listed entry) ∙ has) is) ∙ no))

pub plan_unreserved : (repos : List Repo) (plan : List PlanPart) → AllByRecursion (λ (e : Object). own e ≡ listed e) (plan_entries repos plan)
    → AllByRecursion (λ part. OwnsListed (part_entry repos part)) plan
plan_unreserved repos [] all = tt
plan_unreserved repos (part ∷ plan) all = by (part_entry repos part) (plan_unreserved repos plan) all
  where
    by : (o : Option Object) → (AllByRecursion (λ (e : Object). own e ≡ listed e) (plan_entries repos plan) → AllByRecursion (λ part. OwnsListed (part_entry repos part)) plan)
        → AllByRecursion (λ (e : Object). own e ≡ listed e) (cons_option o (plan_entries repos plan)) → OwnsListed o × AllByRecursion (λ part. OwnsListed (part_entry repos part)) plan
    by None rest all = (tt, rest all)
    by (Some e) rest all = (all.0, rest all.1)

-- what a plan has that isn't refused for what its entries have
pub record IsFree (db : List Object) (names : List Name) (coming : List Object) : Type 0 where
  pub once : AreOnce (flat_map listed_paths coming)
  pub owned : (path : Name) → has_name path (flat_map listed_paths coming) ≡ true → owned_at db names path ≡ None
  pub unreserved_all : AllByRecursion (λ (e : Object). own e ≡ listed e) coming

pub free_of : (db : List Object) (names : List Name) (coming : List Object) → entries_fault db names coming ≡ None → IsFree db names coming
free_of db names coming none =
    let first = neither_fault (first_of bad_execute coming) _ none in
    let second = neither_fault (first_of reserved_path coming) _ first.1 in
    let third = neither_fault (clash coming) (first_of (owned_path db names) coming) second.1 in
    record { once = clash_once coming third.0; owned = none_owned db names coming third.1; unreserved_all = unreserved coming second.0 }
