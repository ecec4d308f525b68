-- What patterns choose, one after the other.
use Rattle.std.proofs.Common.{◌≡◌, ◌≢◌, ℕ, zero, suc, ◌+◌, ◌-◌, ◌^◌, ◌<◌, ◌≤◌, ◌==◌, ◌&&◌, ◌||◌, min, max, Bool, true, false, cond, not, List, [], ◌∷◌, ◌++◌, length, get_or, take, drop, map, filter, refl, sym, ap, subst, ◌∙◌, arith, append_assoc, ltb, leb, lt-ltb, le-leb, rules, inl, inr, nat_eq, position, unwrap_or, Option, None, Some, bytes_eq, Vec, Result, Ok, Err}
use Rattle.std.specs.Ordering.{nat_cmp, is_gt, ordering_then}
use Rattle.std.specs.declared.cmp.Ordering.TheVariants.{Less}
use Rattle.std.specs.declared.alloc.Global.{Global}
use Rattle.std.specs.Result.{IfOk}
use Rattle.std.specs.Cmp.Lexicographic.{slice_cmp}
use Rattle.std.specs.List.{list_any, list_all, count_by, sum_by, join_with_byte}
use Rattle.std.specs.List.Sorted.{IsStrictlySortedBy}
use Rattle.std.specs.BTreeMap.Range.{range_contains}
use Rattle.std.specs.declared.ops.Bound.TheVariants.{Included, Excluded}
use Rattle.std.proofs.lemmas.Bool.{cases_Bool, cases_lt, true≢false, and_parts, and_from, le-ltb, lt-leb, ne_eqb}
use Rattle.std.proofs.lemmas.Bool.Decides.{nat_tests}
use Rattle.std.proofs.lemmas.List.{take_more, take_all, get_or_default}
use Rattle.std.proofs.lemmas.List.Splits.{join_with_byte-slice_split}
use Rattle.std.proofs.lemmas.List.Sums.{sum_by-append, count_by_more_no, count_by_more_yes, sum_by-take-le}
use Rattle.tl_model.specs.Causes.{one_more}
use Rattle.tl_model.specs.Words.{fields}
use Rattle.tl_glob.specs.Matches.{is_match, ends, takes_first}
use Rattle.tl_path.specs.Components.{components, is_below}
use Rattle.tl_pattern.specs.declared.kind.PatternKind.TheVariants.{F, D, T, R}
use Rattle.tl_pattern.specs.declared.pattern.PlacedPattern.{PlacedPattern}
use Rattle.tl_pattern.specs.Form.{PatternSeen, HasForm, folder_of, words_of, name_of, without_last, last_of, is_component, is_wild}
use Rattle.tl_pattern.specs.Hits.{hits, hits_of, hits_file, hits_tree, is_beside, is_in_range, is_in_range_of, chosen, chosen_after}
use Rattle.tl_index.specs.declared.hit.Hit.{Hit}
use Rattle.tl_index.specs.Fronts.{begins, is_within, IsStretch, plain_front}
use Rattle.tl_index.specs.Folders.{Knows, AreFolders, KnowsAll}
use Rattle.tl_index.specs.Places.{has_place, AreSet}
use Rattle.tl_index.specs.Trees.{joined, folder_in, is_plain, AreWords, AreBounds}
use Rattle.tl_index.specs.Select.{selected, range_count, range_counts, IsApplied, at_places}
use Rattle.tl_index.proofs.FrontLemmas.{below_begins, same_cmp}
use Rattle.tl_index.proofs.EntryLemmas.{all_at, same_of}
use Rattle.tl_index.proofs.PlaceLemmas.{at_places_filter}
use Rattle.tl_index.proofs.TreeLemmas.{between_slash, any_filter, serves_is}

abbrev Text : Type 0
Text = List ℕ

-- ---- one pattern more

chosen_behind : (b : Bool) (ps : List PlacedPattern) (p : PlacedPattern) (path : Text) → chosen_after b (ps ++ p ∷ []) path ≡ cond (hits p.pattern path) p.positive (chosen_after b ps path)
chosen_behind b [] p path = refl
chosen_behind b (q ∷ ps) p path = chosen_behind (cond (hits q.pattern path) q.positive b) ps p path

-- the places of what the first of some patterns choose, with a count of ticks
pub record ChosenSoFar (patterns : List PlacedPattern) (entries : List Hit) (i : ℕ) (places : List ℕ) (before count : ℕ) : Type 0 where
  pub each : (k : ℕ) (d : Hit) → k < length entries → has_place places k ≡ chosen (take i patterns) (get_or entries k d).path
  pub others : (k : ℕ) → length entries ≤ k → has_place places k ≡ false
  pub ticks : count ≤ before + range_counts (take i patterns) entries

pub chosen_none : (patterns : List PlacedPattern) (entries : List Hit) (count : ℕ) → ChosenSoFar patterns entries 0 [] count count
unfolding chosen
chosen_none patterns entries count = record { each = λ k d lt. refl; others = λ k le. refl; ticks = omega arith }

counts_more : (patterns : List PlacedPattern) (entries : List Hit) (i : ℕ) (p : PlacedPattern) → i < length patterns → p ≡ get_or patterns i p
    → range_counts (take (i + 1) patterns) entries ≡ range_counts (take i patterns) entries + range_count p.pattern entries
counts_more patterns entries i p lt is =
    ap (λ (l : List PlacedPattern). range_counts l entries) (take_more patterns i p lt ∙ ap (λ (q : PlacedPattern). take i patterns ++ q ∷ []) (sym is))
    ∙ sum_by-append (λ (q : PlacedPattern). range_count q.pattern entries) (take i patterns) (p ∷ [])
    ∙ ap (λ n. range_counts (take i patterns) entries + n) (no_more (range_count p.pattern entries))
  where
    no_more : (n : ℕ) → 0 + n ≡ n
    no_more n = omega arith

pub chosen_more : (patterns : List PlacedPattern) (entries : List Hit) (i : ℕ) (p : PlacedPattern) (old new : List ℕ) (before mid count : ℕ) → i < length patterns → p ≡ get_or patterns i p
    → IsApplied (hits p.pattern) p.positive entries old new → count ≤ mid + range_count p.pattern entries → ChosenSoFar patterns entries i old before mid → ChosenSoFar patterns entries (i + 1) new before count
unfolding chosen
chosen_more patterns entries i p old new before mid count lt is applied ticks so_far = record {
  each = λ k d less. applied.each k d less ∙ ap (cond (hits p.pattern (get_or entries k d).path) p.positive) (so_far.each k d less)
      ∙ sym (ap (λ (l : List PlacedPattern). chosen_after false l (get_or entries k d).path) (take_more patterns i p lt ∙ ap (λ (q : PlacedPattern). take i patterns ++ q ∷ []) (sym is))
      ∙ chosen_behind false (take i patterns) p (get_or entries k d).path);
  others = λ k le. applied.others k le (so_far.others k le);
  ticks = omega (arith, ticks, so_far.ticks, counts_more patterns entries i p lt is);
}

-- the ticks of some patterns are within those of all
pub ticks_within : (patterns : List PlacedPattern) (entries : List Hit) (i : ℕ) (p : PlacedPattern) (places : List ℕ) (before mid count : ℕ) → i < length patterns → p ≡ get_or patterns i p
    → count ≤ mid + range_count p.pattern entries → ChosenSoFar patterns entries i places before mid → count ≤ before + range_counts patterns entries
ticks_within patterns entries i p places before mid count lt is ticks so_far =
    omega (arith, ticks, so_far.ticks, counts_more patterns entries i p lt is, sum_by-take-le (λ (q : PlacedPattern). range_count q.pattern entries) patterns (i + 1))

pub ticks_all : (patterns : List PlacedPattern) (entries : List Hit) (i : ℕ) (places : List ℕ) (before count : ℕ) → ChosenSoFar patterns entries i places before count → count ≤ before + range_counts patterns entries
ticks_all patterns entries i places before count so_far =
    omega (arith, so_far.ticks, sum_by-take-le (λ (q : PlacedPattern). range_count q.pattern entries) patterns i)

pub all_chosen : (patterns : List PlacedPattern) (entries : List Hit) (i : ℕ) (places : List ℕ) (before count : ℕ) → length patterns ≤ i → IsStrictlySortedBy nat_cmp places
    → ChosenSoFar patterns entries i places before count → at_places places entries ≡ selected patterns entries
all_chosen patterns entries i places before count all sorted so_far =
    at_places_filter entries (λ (h : Hit). chosen patterns h.path) places sorted
    (λ k d lt. so_far.each k d lt ∙ ap (λ (l : List PlacedPattern). chosen l (get_or entries k d).path) (take_all i patterns all)) so_far.others

-- ---- stretches

pub applied_as : (test other : Text → Bool) (positive : Bool) (entries : List Hit) (old new : List ℕ) → ((i : ℕ) (d : Hit) → i < length entries → test (get_or entries i d).path ≡ other (get_or entries i d).path)
    → IsApplied test positive entries old new → IsApplied other positive entries old new
applied_as test other positive entries old new same applied = record {
  each = λ i d lt. applied.each i d lt ∙ ap (λ t. cond t positive (has_place old i)) (same i d lt);
  others = applied.others;
}

pub applied_stretch : (front : Text) (positive : Bool) (entries : List Hit) (low high : ℕ) (old new : List ℕ) → IsStretch front entries low high → AreSet low high positive old new → IsApplied (begins front) positive entries old new
applied_stretch front positive entries low high old new stretch set = record {
  each = λ i d lt. set i ∙ ap (λ t. cond t positive (has_place old i)) (sym (stretch.same i d lt));
  others = λ i le none. set i ∙ ap (λ t. cond t positive (has_place old i)) (past i le) ∙ none;
}
  where
    past : (i : ℕ) → length entries ≤ i → is_within low high i ≡ false
    past i le = by (leb low i) (le-ltb i high (omega (arith, le, stretch.within)))
      where
        by : (b : Bool) → ltb i high ≡ false → (b && ltb i high) ≡ false
        by true e = e
        by false e = refl

pub applied_below : (folder : Text) (positive : Bool) (entries : List Hit) (low high : ℕ) (old new : List ℕ) → IsStretch (folder ++ 47 ∷ []) entries low high → AreSet low high positive old new
    → IsApplied (λ path. is_below path folder) positive entries old new
applied_below folder positive entries low high old new stretch set =
    applied_as (begins (folder ++ 47 ∷ [])) (λ path. is_below path folder) positive entries old new (λ i d lt. sym (below_begins folder (get_or entries i d).path))
    (applied_stretch (folder ++ 47 ∷ []) positive entries low high old new stretch set)

-- ---- folders by their keys

-- whether a path is in the folder of a key
abbrev pub is_in : Text → Text → Bool
is_in path key = begins (folder_in key ++ 47 ∷ []) path

-- some keys' folders are done, and others are left
pub record TreeSoFar (positive : Bool) (entries : List Hit) (all rest : List Text) (old new : List ℕ) : Type 0 where
  pub each : (i : ℕ) (d : Hit) → i < length entries
      → cond (list_any (is_in (get_or entries i d).path) rest) positive (has_place new i) ≡ cond (list_any (is_in (get_or entries i d).path) all) positive (has_place old i)
  pub others : (i : ℕ) → length entries ≤ i → has_place old i ≡ false → has_place new i ≡ false

pub tree_none : (positive : Bool) (entries : List Hit) (all rest : List Text) (old : List ℕ) → rest ≡ all → TreeSoFar positive entries all rest old old
tree_none positive entries all rest old is = record {
  each = λ i d lt. ap (λ (l : List Text). cond (list_any (is_in (get_or entries i d).path) l) positive (has_place old i)) is;
  others = λ i le none. none;
}

pub tree_more : (positive : Bool) (entries : List Hit) (all left rest : List Text) (key folder : Text) (old mid new : List ℕ) → left ≡ key ∷ rest → folder ≡ folder_in key
    → IsApplied (begins (folder ++ 47 ∷ [])) positive entries mid new → TreeSoFar positive entries all left old mid → TreeSoFar positive entries all rest old new
tree_more positive entries all left rest key folder old mid new is folder_is applied so_far = record {
  each = λ i d lt.
      let path = (get_or entries i d).path in
      ap (cond (list_any (is_in path) rest) positive) (applied.each i d lt ∙ ap (λ (t : Text). cond (begins (t ++ 47 ∷ []) path) positive (has_place mid i)) folder_is)
      ∙ turned (is_in path key) (list_any (is_in path) rest) (has_place mid i)
      ∙ ap (λ (l : List Text). cond (list_any (is_in path) l) positive (has_place mid i)) (sym is) ∙ so_far.each i d lt;
  others = λ i le none. applied.others i le (so_far.others i le none);
}
  where
    turned : (a b h : Bool) → cond b positive (cond a positive h) ≡ cond (a || b) positive h
    turned true true h = refl
    turned true false h = refl
    turned false b h = refl

range_test : (start name front behind key : Text) → front ≡ name ++ 47 ∷ (start ++ 47 ∷ []) → behind ≡ name ++ 47 ∷ (start ++ 48 ∷ [])
    → range_contains (slice_cmp nat_cmp) (Included front) (Excluded behind) key ≡ begins (name ++ 47 ∷ (start ++ 47 ∷ [])) key
range_test start name front behind key f b =
    ap (λ (t : Text). range_contains (slice_cmp nat_cmp) (Included t) (Excluded behind) key) (f ∙ sym (regroup 47)) ∙ ap (λ (t : Text). range_contains (slice_cmp nat_cmp) (Included ((name ++ 47 ∷ start) ++ 47 ∷ [])) (Excluded t) key) (b ∙ sym (regroup 48))
    ∙ between_slash (name ++ 47 ∷ start) key ∙ ap (λ (t : Text). begins t key) (regroup 47)
  where
    regroup : (n : ℕ) → (name ++ 47 ∷ start) ++ n ∷ [] ≡ name ++ 47 ∷ (start ++ n ∷ [])
    regroup n = append_assoc name (47 ∷ start) (n ∷ [])

any_agree : (f g : Text → Bool) → ((k : Text) → f k ≡ g k) → (xs : List Text) → list_any f xs ≡ list_any g xs
any_agree f g same [] = refl
any_agree f g same (x ∷ xs) = ap (λ t. t || list_any f xs) (same x) ∙ ap (λ t. g x || t) (any_agree f g same xs)

pub tree_done : (positive : Bool) (entries : List Hit) (keys all rest words : List Text) (name front behind : Text) (old new : List ℕ) → AreWords words name → AreBounds words name front behind → KnowsAll keys entries
    → all ≡ filter (range_contains (slice_cmp nat_cmp) (Included front) (Excluded behind)) keys → rest ≡ [] → TreeSoFar positive entries all rest old new
    → IsApplied (λ path. hits_tree words name (components path)) positive entries old new
tree_done positive entries keys all rest words name front behind old new are bounds known range none so_far = record {
  each = λ i d lt.
      let path = (get_or entries i d).path in
      ap (λ (l : List Text). cond (list_any (is_in path) l) positive (has_place new i)) (sym none) ∙ so_far.each i d lt
      ∙ ap (λ t. cond t positive (has_place old i)) (found path (all_at (λ (h : Hit). Knows keys h.path) entries i d known.knows lt));
  others = so_far.others;
}
  where
    found : (path : Text) → Knows keys path → list_any (is_in path) all ≡ hits_tree words name (components path)
    found path knows =
        ap (list_any (is_in path)) range ∙ any_filter (range_contains (slice_cmp nat_cmp) (Included front) (Excluded behind)) (is_in path) keys
        ∙ any_agree (λ k. range_contains (slice_cmp nat_cmp) (Included front) (Excluded behind) k && is_in path k) (λ k. begins (name ++ 47 ∷ joined words) k && is_in path k)
        (λ k. ap (λ t. t && is_in path k) (range_test bounds.start name front behind k bounds.front_is bounds.behind_is ∙ ap (λ (t : Text). begins (name ++ 47 ∷ t) k) (sym bounds.words_are))) keys
        ∙ serves_is keys path words name are knows known.folders

-- ---- tests of one path after the other

pub record WalkedSoFar (pattern : PatternSeen) (positive : Bool) (entries : List Hit) (low place : ℕ) (old new : List ℕ) (before count : ℕ) : Type 0 where
  pub from : low ≤ place
  pub each : (i : ℕ) (d : Hit) → i < length entries → has_place new i ≡ cond (is_within low place i && hits pattern (get_or entries i d).path) positive (has_place old i)
  pub others : (i : ℕ) → length entries ≤ i → has_place old i ≡ false → has_place new i ≡ false
  pub ticks : count ≤ before + count_by (λ (h : Hit). is_in_range pattern h.path) (take place entries)

within_none : (low i : ℕ) → is_within low low i ≡ false
within_none low i = grind (arith, nat_tests)

within_more : (low n i : ℕ) → low ≤ n → is_within low (n + 1) i ≡ (i == n || is_within low n i)
within_more low n i le = grind (arith, nat_tests)

pub walked_none : (pattern : PatternSeen) (positive : Bool) (entries : List Hit) (low : ℕ) (old : List ℕ) (count : ℕ) → WalkedSoFar pattern positive entries low low old old count count
walked_none pattern positive entries low old count = record {
  from = omega arith;
  each = λ i d lt. sym (ap (λ t. cond (t && hits pattern (get_or entries i d).path) positive (has_place old i)) (within_none low i));
  others = λ i le none. none;
  ticks = omega arith;
}

-- the entry at a place
pub record IsEntry (entries : List Hit) (place : ℕ) (path : Text) : Type 0 where
  pub inside : place < length entries
  pub is : (d : Hit) → (get_or entries place d).path ≡ path

-- an entry of a list that has one
get_hit : (entries : List Hit) (place : ℕ) → place < length entries → Hit
get_hit [] place lt = absurd (omega arith)
get_hit (h ∷ hits) place lt = h

count_more : (pattern : PatternSeen) (entries : List Hit) (place : ℕ) (path : Text) (d : Hit) → IsEntry entries place path
    → count_by (λ (h : Hit). is_in_range pattern h.path) (take (place + 1) entries) ≡ count_by (λ (h : Hit). is_in_range pattern h.path) (take place entries) + cond (is_in_range pattern path) 1 0
count_more pattern entries place path d entry = elim (cases_Bool (is_in_range pattern path)) [
  | inl inside ↦ count_by_more_yes (λ (h : Hit). is_in_range pattern h.path) entries place d entry.inside (ap (is_in_range pattern) (entry.is d) ∙ inside) ∙ sym (ap (λ t. count_by (λ (h : Hit). is_in_range pattern h.path) (take place entries) + cond t 1 0) inside)
  | inr outside ↦ count_by_more_no (λ (h : Hit). is_in_range pattern h.path) entries place d entry.inside (ap (is_in_range pattern) (entry.is d) ∙ outside) ∙ sym (ap (λ t. count_by (λ (h : Hit). is_in_range pattern h.path) (take place entries) + cond t 1 0) outside ∙ omega arith)
]

and_false : (b : Bool) → (b && false) ≡ false
and_false true = refl
and_false false = refl

-- one place more
pub walked_step : (pattern : PatternSeen) (positive : Bool) (entries : List Hit) (low place : ℕ) (path : Text) (old new next : List ℕ) (before count later : ℕ) (hit : Bool) → IsEntry entries place path
    → hit ≡ hits pattern path → ((i : ℕ) → has_place next i ≡ cond (hit && i == place) positive (has_place new i)) → later ≤ count + cond (is_in_range pattern path) 1 0
    → WalkedSoFar pattern positive entries low place old new before count → WalkedSoFar pattern positive entries low (place + 1) old next before later
walked_step pattern positive entries low place path old new next before count later hit entry is set ticks so_far = record {
  from = omega (arith, so_far.from);
  each = λ i d lt. set i ∙ ap (cond (hit && i == place) positive) (so_far.each i d lt)
      ∙ stepped (i == place) (is_within low place i) (hits pattern (get_or entries i d).path) (has_place old i) (λ same. at_place i d same)
      ∙ ap (λ t. cond (t && hits pattern (get_or entries i d).path) positive (has_place old i)) (sym (within_more low place i so_far.from));
  others = λ i le none. set i ∙ ap (λ t. cond (hit && t) positive (has_place new i)) (other i le) ∙ ap (λ t. cond t positive (has_place new i)) (and_false hit) ∙ so_far.others i le none;
  ticks = omega (arith, ticks, so_far.ticks, count_more pattern entries place path (get_hit entries place entry.inside) entry);
}
  where
    at_place : (i : ℕ) (d : Hit) → (i == place) ≡ true → hits pattern (get_or entries i d).path ≡ hit
    at_place i d same =
        let here : i ≡ place = grind (arith, nat_tests, same) in
        ap (λ k. hits pattern (get_or entries k d).path) here ∙ ap (hits pattern) (entry.is d) ∙ sym is

    other : (i : ℕ) → length entries ≤ i → (i == place) ≡ false
    other i le = ne_eqb i place (λ same. absurd (omega (arith, same, le, entry.inside)))

    stepped : (e v h o : Bool) → (e ≡ true → h ≡ hit) → cond (hit && e) positive (cond (v && h) positive o) ≡ cond ((e || v) && h) positive o
    stepped true v h o same = by hit h (same refl)
      where
        by : (a b : Bool) → b ≡ a → cond (a && true) positive (cond (v && b) positive o) ≡ cond b positive o
        by true b e = sym (ap (λ t. cond t positive o) e)
        by false b e = ap (λ t. cond (v && t) positive o) e ∙ ap (λ t. cond t positive o) (and_false v) ∙ sym (ap (λ t. cond t positive o) e)
    stepped false v h o same = ap (λ t. cond t positive (cond (v && h) positive o)) (and_false hit)

pub walked_done : (pattern : PatternSeen) (positive : Bool) (entries : List Hit) (low place : ℕ) (old new : List ℕ) (before count : ℕ)
    → ((i : ℕ) (d : Hit) → i < length entries → hits pattern (get_or entries i d).path ≡ true → is_within low place i ≡ true)
    → WalkedSoFar pattern positive entries low place old new before count → IsApplied (hits pattern) positive entries old new
walked_done pattern positive entries low place old new before count covers so_far = record {
  each = λ i d lt. so_far.each i d lt ∙ ap (λ t. cond t positive (has_place old i)) (covered (is_within low place i) (hits pattern (get_or entries i d).path) (covers i d lt));
  others = so_far.others;
}
  where
    covered : (w h : Bool) → (h ≡ true → w ≡ true) → (w && h) ≡ h
    covered w true is = ap (λ t. t && true) (is refl)
    covered w false is = and_false w

pub walked_ticks : (pattern : PatternSeen) (positive : Bool) (entries : List Hit) (low place : ℕ) (old new : List ℕ) (before count : ℕ) → WalkedSoFar pattern positive entries low place old new before count
    → count ≤ before + range_count pattern entries
walked_ticks pattern positive entries low place old new before count so_far =
    omega (arith, so_far.ticks, sum_by-take-le (λ (h : Hit). cond (is_in_range pattern h.path) 1 0) entries place)

-- a tick in the midst of it
pub walked_tick : (pattern : PatternSeen) (positive : Bool) (entries : List Hit) (low place : ℕ) (path : Text) (old new : List ℕ) (before count later : ℕ) → IsEntry entries place path
    → later ≤ count + cond (is_in_range pattern path) 1 0 → WalkedSoFar pattern positive entries low place old new before count → later ≤ before + range_count pattern entries
walked_tick pattern positive entries low place path old new before count later entry ticks so_far =
    omega (arith, ticks, so_far.ticks, count_more pattern entries place path (get_hit entries place entry.inside) entry, sum_by-take-le (λ (h : Hit). cond (is_in_range pattern h.path) 1 0) entries (place + 1))

pub tick_counted : (pattern : PatternSeen) (path : Text) (count : ℕ) → is_in_range pattern path ≡ true → one_more count ≤ count + cond (is_in_range pattern path) 1 0
tick_counted pattern path count is = subst (λ t. one_more count ≤ count + cond t 1 0) (sym is) (omega arith)

-- ---- what the kinds hit

pub folder_pattern : (pattern : PatternSeen) (folder : Text) (positive : Bool) (entries : List Hit) (old new : List ℕ) → pattern.kind ≡ D → folder ≡ folder_of pattern.text
    → IsApplied (λ path. is_below path folder) positive entries old new → IsApplied (hits pattern) positive entries old new
folder_pattern pattern folder positive entries old new kind is applied =
    applied_as (λ path. is_below path folder) (hits pattern) positive entries old new
    (λ i d lt. ap (is_below (get_or entries i d).path) is ∙ sym (ap (λ k. hits_of k pattern.text (get_or entries i d).path) kind)) applied

pub tree_pattern : (pattern : PatternSeen) (words : List Text) (name : Text) (positive : Bool) (entries : List Hit) (old new : List ℕ) → pattern.kind ≡ T → words ≡ words_of pattern.text → name ≡ name_of pattern.text
    → IsApplied (λ path. hits_tree words name (components path)) positive entries old new → IsApplied (hits pattern) positive entries old new
tree_pattern pattern words name positive entries old new kind words_are name_is applied =
    applied_as (λ path. hits_tree words name (components path)) (hits pattern) positive entries old new
    (λ i d lt. ap (λ (ws : List Text). hits_tree ws name (components (get_or entries i d).path)) words_are ∙ ap (λ (n : Text). hits_tree (words_of pattern.text) n (components (get_or entries i d).path)) name_is
    ∙ sym (ap (λ k. hits_of k pattern.text (get_or entries i d).path) kind)) applied

none_all : (t : Text) → not (list_any (λ b. b == 47) t) ≡ is_plain t
none_all [] = refl
none_all (b ∷ t) = by (b == 47) (none_all t)
  where
    by : (c : Bool) → not (list_any (λ x. x == 47) t) ≡ is_plain t → not (c || list_any (λ x. x == 47) t) ≡ (not c && is_plain t)
    by true more = refl
    by false more = more

component_plain : (t : Text) → is_component t ≡ true → is_plain t ≡ true
component_plain t is = sym (none_all t) ∙ (and_parts _ _ is).1

all_plain : (ws : List Text) → list_all is_component ws ≡ true → list_all is_plain (without_last ws) ≡ true
all_plain [] all = refl
all_plain (w ∷ []) all = refl
all_plain (w ∷ v ∷ ws) all =
    let parts = and_parts (is_component w) (list_all is_component (v ∷ ws)) all in
    and_from _ _ (component_plain w parts.0) (all_plain (v ∷ ws) parts.1)

last_plain : (ws : List Text) → list_all is_component ws ≡ true → is_plain (last_of ws) ≡ true
last_plain [] all = refl
last_plain (w ∷ []) all = component_plain w (and_parts (is_component w) true all).0
last_plain (w ∷ v ∷ ws) all = last_plain (v ∷ ws) (and_parts (is_component w) (list_all is_component (v ∷ ws)) all).1

length_without : (ws : List Text) → 2 ≤ length ws → 0 < length (without_last ws)
length_without [] le = absurd (omega arith)
length_without (w ∷ []) le = absurd (omega arith)
length_without (w ∷ v ∷ ws) le = omega arith

pub words_of_form : (text : Text) (words : List Text) (name : Text) → words ≡ words_of text → name ≡ name_of text → HasForm T text → AreWords words name
words_of_form text words name words_are name_is form =
    let parts : (leb 2 (length (fields text)) ≡ true) × (list_all is_component (fields text) ≡ true) = and_parts (leb 2 (length (fields text))) (list_all is_component (fields text)) form in
    let two : 2 ≤ length (fields text) = grind (arith, nat_tests, parts.0) in
    record {
      some = subst (λ (ws : List Text). 0 < length ws) (sym words_are) (length_without (fields text) two);
      plain = ap (list_all is_plain) words_are ∙ all_plain (fields text) parts.1;
      name_plain = ap is_plain name_is ∙ last_plain (fields text) parts.1;
    }

-- ---- the front of a file's pattern

same_front : (p t u : Text) → begins (plain_front t) u ≡ true → begins (plain_front (p ++ t)) (p ++ u) ≡ true
same_front [] t u is = is
same_front (b ∷ p) t u is = by (is_wild b) (same_front p t u is)
  where
    by : (w : Bool) → begins (plain_front (p ++ t)) (p ++ u) ≡ true → begins (cond w [] (b ∷ plain_front (p ++ t))) (b ∷ (p ++ u)) ≡ true
    by true more = refl
    by false more = and_from _ _ (search (rules, nat_tests)) more

match_front : (p c : Text) → is_match p c ≡ true → begins (plain_front p) c ≡ true
match_front [] c is = refl
match_front (b ∷ p) c is = by (b == 42) (b == 63) refl refl c is (match_front p)
  where
    by : (star question : Bool) → (b == 42) ≡ star → (b == 63) ≡ question → (c : Text) → cond star (list_any (is_match p) (ends c)) (takes_first b (is_match p) c) ≡ true
        → ((c : Text) → is_match p c ≡ true → begins (plain_front p) c ≡ true) → begins (cond (star || question) [] (b ∷ plain_front p)) c ≡ true
    by true question s q c is more = refl
    by false true s q c is more = refl
    by false false s q [] is more = absurd (true≢false (sym is))
    by false false s q (x ∷ c) is more =
        let parts = and_parts (b == 63 || b == x) (is_match p c) is in
        and_from _ _ (sym (ap (λ t. t || b == x) q) ∙ parts.0) (more c parts.1)

beside_front : (ps cs : List Text) → is_beside ps cs ≡ true → is_match (last_of ps) (last_of cs) ≡ true → begins (plain_front (join_with_byte 47 ps)) (join_with_byte 47 cs) ≡ true
beside_front [] cs is fits = absurd (true≢false (sym is))
beside_front (p ∷ []) [] is fits = absurd (true≢false (sym is))
beside_front (p ∷ []) (c ∷ []) is fits = match_front p c fits
beside_front (p ∷ []) (c ∷ d ∷ cs) is fits = absurd (true≢false (sym is))
beside_front (p ∷ q ∷ ps) [] is fits = absurd (true≢false (sym is))
beside_front (p ∷ q ∷ []) (c ∷ []) is fits = absurd (true≢false (sym (and_parts (bytes_eq c p) false is).1))
beside_front (p ∷ q ∷ r ∷ ps) (c ∷ []) is fits = absurd (true≢false (sym (and_parts (bytes_eq c p) false is).1))
beside_front (p ∷ q ∷ ps) (c ∷ d ∷ cs) is fits =
    let parts = and_parts (bytes_eq c p) (is_beside (q ∷ ps) (d ∷ cs)) is in
    let same : c ≡ p = same_of c p parts.0 in
    subst (λ (t : Text). begins (plain_front (p ++ 47 ∷ join_with_byte 47 (q ∷ ps))) (t ++ 47 ∷ join_with_byte 47 (d ∷ cs)) ≡ true) (sym same)
    (same_front p (47 ∷ join_with_byte 47 (q ∷ ps)) (47 ∷ join_with_byte 47 (d ∷ cs)) (beside_front (q ∷ ps) (d ∷ cs) parts.1 fits))

file_front : (text path : Text) → hits_of F text path ≡ true → begins (plain_front text) path ≡ true
file_front text path is =
    let parts = and_parts (is_beside (components text) (components path)) (is_match (last_of (components text)) (last_of (components path))) is in
    subst (λ (t : Text). begins (plain_front t) path ≡ true) (join_with_byte-slice_split 47 text)
    (subst (λ (u : Text). begins (plain_front (join_with_byte 47 (components text))) u ≡ true) (join_with_byte-slice_split 47 path)
    (beside_front (components text) (components path) parts.0 parts.1))

-- what a file's pattern hits stands where the front of its glob does
pub file_covered : (pattern : PatternSeen) (file : Text) (entries : List Hit) (low high : ℕ) → pattern.kind ≡ F → file ≡ pattern.text → IsStretch (plain_front file) entries low high
    → (i : ℕ) (d : Hit) → i < length entries → hits pattern (get_or entries i d).path ≡ true → is_within low high i ≡ true
file_covered pattern file entries low high kind is stretch i d lt hit =
    sym (stretch.same i d lt) ∙ ap (λ (t : Text). begins (plain_front t) (get_or entries i d).path) is
    ∙ file_front pattern.text (get_or entries i d).path (sym (ap (λ k. hits_of k pattern.text (get_or entries i d).path) kind) ∙ hit)

-- a path that isn't beside the file
pub file_apart : (pattern : PatternSeen) (file path : Text) → pattern.kind ≡ F → file ≡ pattern.text → is_beside (components file) (components path) ≡ false → hits pattern path ≡ false
file_apart pattern file path kind is apart =
    ap (λ k. hits_of k pattern.text path) kind ∙ ap (λ (t : Text). is_beside (components t) (components path) && is_match (last_of (components t)) (last_of (components path))) (sym is)
    ∙ ap (λ t. t && is_match (last_of (components file)) (last_of (components path))) apart

pub file_in_range : (pattern : PatternSeen) (file path : Text) → pattern.kind ≡ F → file ≡ pattern.text → is_beside (components file) (components path) ≡ true → is_in_range pattern path ≡ true
file_in_range pattern file path kind is beside =
    ap (λ k. is_in_range_of k pattern.text path) kind ∙ ap (λ (t : Text). is_beside (components t) (components path)) (sym is) ∙ beside

pub all_in_range : (pattern : PatternSeen) (path : Text) → pattern.kind ≡ R → is_in_range pattern path ≡ true
all_in_range pattern path kind = ap (λ k. is_in_range_of k pattern.text path) kind

pub tick_all : (pattern : PatternSeen) (path : Text) (count later : ℕ) → pattern.kind ≡ R → later ≡ one_more count → later ≤ count + cond (is_in_range pattern path) 1 0
tick_all pattern path count later kind is = subst (λ n. n ≤ count + cond (is_in_range pattern path) 1 0) (sym is) (tick_counted pattern path count (all_in_range pattern path kind))

pub entry_of : (e now : List Hit) (place : ℕ) (item : Hit) → e ≡ now → place < length e → item ≡ get_or e place item → IsEntry now place item.path
entry_of e now place item same lt is = subst (λ (l : List Hit). IsEntry l place item.path) same (record {
  inside = lt;
  is = λ d. ap (λ (h : Hit). h.path) (get_or_default e place d item lt ∙ sym is);
})

pub all_within : (place i : ℕ) → i < place → is_within 0 place i ≡ true
all_within place i lt = and_from _ _ (le-leb 0 i (omega arith)) (lt-ltb i place lt)

pub ok_items : {E : Type 0} (r : Result (Vec Hit Global) E) (xs ys : List Hit) → xs ≡ ys → IfOk r (λ v. v.items ≡ xs) → IfOk r (λ v. v.items ≡ ys)
ok_items (Ok v) xs ys same is = is ∙ same
ok_items (Err e) xs ys same is = tt

less_end : (z : Text) → slice_cmp nat_cmp (z ++ 47 ∷ []) (z ++ 48 ∷ []) ≡ Less
less_end [] = refl
less_end (c ∷ z) = ap (λ o. ordering_then o (slice_cmp nat_cmp (z ++ 47 ∷ []) (z ++ 48 ∷ []))) (same_cmp c) ∙ less_end z

pub bounds_order : (words : List Text) (name front behind : Text) → AreBounds words name front behind → is_gt (slice_cmp nat_cmp front behind) ≡ false
bounds_order words name front behind bounds =
    let z = name ++ 47 ∷ bounds.start in
    ap (λ (t : Text). is_gt (slice_cmp nat_cmp t behind)) (bounds.front_is ∙ sym (append_assoc name (47 ∷ bounds.start) (47 ∷ [])))
    ∙ ap (λ (t : Text). is_gt (slice_cmp nat_cmp (z ++ 47 ∷ []) t)) (bounds.behind_is ∙ sym (append_assoc name (47 ∷ bounds.start) (48 ∷ [])))
    ∙ ap is_gt (less_end z)

pub same_item : (patterns : List PlacedPattern) (i : ℕ) (d : PlacedPattern) → i < length patterns → get_or patterns i d ≡ get_or patterns i (get_or patterns i d)
same_item patterns i d lt = get_or_default patterns i d (get_or patterns i d) lt
