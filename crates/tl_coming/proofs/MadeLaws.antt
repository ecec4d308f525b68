-- The steps of a plan that isn't refused are changes of a tree.
use Rattle.std.proofs.Common.{◌≡◌, ℕ, zero, suc, Bool, true, false, cond, not, ◌||◌, ◌&&◌, List, [], ◌∷◌, ◌++◌, map, Option, Some, None, refl, sym, ap, subst, ◌∙◌, inl, inr}
use Rattle.std.specs.Prelude.{filter, is_some}
use Rattle.std.specs.List.{list_any, flat_map, onto_first, AllByRecursion}
use Rattle.std.proofs.lemmas.Bool.{cases_Bool, true≢false, false_from_ne_true, or_right}
use Rattle.std.proofs.lemmas.List.{append_assoc, map-append}
use Rattle.tl_model.specs.Volume.{Name, same_name, same_name-refl}
use Rattle.tl_model.specs.Acks.{IsLabel}
use Rattle.tl_path.specs.Components.{is_touching}
use Rattle.tl_path.specs.Reserved.{is_reserved}
use Rattle.tl_entry.specs.Copies.{less_containers}
use Rattle.tl_entry.specs.Rising.{insert_by, comes_before}
use Rattle.tl_entry.specs.FilePaths.{listed_paths}
use Rattle.tl_entry.specs.declared.object.Object.{Object}
use Rattle.tl_db.specs.Entries.{others}
use Rattle.tl_db.specs.declared.repo.Repo.{Repo}
use Rattle.tl_tree.specs.Staged.{has_name}
use Rattle.tl_tree.specs.Changes.{own, listed, entries_after, entries_by}
use Rattle.tl_tree.specs.Conditions.{IsChange, spoken_names, spoken_paths, put_names, spoken_names_by, spoken_paths_by, put_by, loose_paths_by, kept_paths, loose_paths, PutsOwn, IsLoose}
use Rattle.tl_tree.specs.declared.change.Part.{Part}
use Rattle.tl_tree.specs.declared.change.Part.TheVariants as change
use Rattle.tl_tree.proofs.Distinct.{AreOnce, IsPart, neither_has, has_left, has_right, once-left, once-right, once-cross, part-append, part-same, part-nil}
use Rattle.tl_tree.proofs.Entering.{entry_named}
use Rattle.tl_plan.specs.Plans.{is_any_touching}
use Rattle.tl_coming.specs.Cuts.{cuts_behind, plan_cuts}
use Rattle.tl_coming.specs.Made.{stream_of, made_by, made_parts, IsGiven, OwnsListed, AreChanges}
use Rattle.tl_coming.specs.Parts.{part_name, part_entry, entry_at, listed_or_none, files_with, paths_with}
use Rattle.tl_coming.specs.Planning.{plan_entries}
use Rattle.tl_coming.specs.Refused.{owned_at, owns_outside, entries_fault}
use Rattle.tl_coming.specs.declared.part.PlanPart.{PlanPart}
use Rattle.tl_coming.specs.declared.part.PlanPart.TheVariants.{Install, Update, Remove}
use Rattle.tl_coming.specs.declared.error.ComingError.TheVariants.{Owned}
use Rattle.tl_coming.proofs.ClashLaws.{same_listed, flat-append, any_filter}
use Rattle.tl_coming.proofs.CutLaws.{flat_more}
use Rattle.tl_coming.proofs.OnceLaws.{IsFree, free_of, paths_entries, plan_unreserved, touches_name, touch_any, same_among, unfound}
use Rattle.tl_plan.proofs.SetLaws.{any_flat}

abbrev Plan : Type 0
Plan = List PlanPart

or_nil : (t : Bool) → (t || false) ≡ t
or_nil true = refl
or_nil false = refl

append_nil : {X : Type 0} (l : List X) → l ++ [] ≡ l
append_nil [] = refl
append_nil {X} (x ∷ l) = ap (λ (r : List X). x ∷ r) (append_nil l)

-- ---- what comes with a part, and what it does to the tree

filter_part : (q : Name → Bool) (xs : List Name) → IsPart (filter q xs) xs
filter_part q [] = part-nil []
filter_part q (x ∷ xs) = by (q x) (filter_part q xs)
  where
    by : (t : Bool) → IsPart (filter q xs) xs → IsPart (cond t (x ∷ filter q xs) (filter q xs)) (x ∷ xs)
    by true rest = part-append (x ∷ []) (filter q xs) (x ∷ []) xs (part-same (x ∷ [])) rest
    by false rest = part-append [] (filter q xs) (x ∷ []) xs (part-nil (x ∷ [])) rest

own_part : (e : Object) → IsPart (own e) (listed_paths e)
own_part e = subst (λ (l : List Name). IsPart (own e) l) (sym (same_listed e)) (filter_part (λ path. not (is_reserved path)) (listed e))

-- what a part does: it brings an entry with its files, or its package leaves
data PartMade (repos : List Repo) (part : PlanPart) : Type 0 where
  brings : (e : Object) → made_by repos part ≡ change.Stream (less_containers e) ∷ [] → e.name ≡ part_name part → paths_with repos part ≡ listed_paths e → PartMade repos part
  leaves : made_by repos part ≡ change.Remove (part_name part) ∷ [] → PartMade repos part

named : (repos : List Repo) (place : ℕ) (name : Name) (e : Object) → entry_at repos place name ≡ Some e → e.name ≡ name
named [] place name e is = absurd (cc)
named (repo ∷ repos) zero name e is = entry_named name repo.db e is
named (repo ∷ repos) (suc place) name e is = named repos place name e is

part_made : (repos : List Repo) (part : PlanPart) → IsGiven repos part → PartMade repos part
part_made repos (Install name place) given = by (entry_at repos place name) refl given
  where
    by : (o : Option Object) → entry_at repos place name ≡ o → is_some o ≡ true → PartMade repos (Install name place)
    by None is there = absurd (true≢false (sym there))
    by (Some e) is there = brings e (ap stream_of is) (named repos place name e is) (ap listed_or_none is)
part_made repos (Update name place) given = by (entry_at repos place name) refl given
  where
    by : (o : Option Object) → entry_at repos place name ≡ o → is_some o ≡ true → PartMade repos (Update name place)
    by None is there = absurd (true≢false (sym there))
    by (Some e) is there = brings e (ap stream_of is) (named repos place name e is) (ap listed_or_none is)
part_made repos (Remove name) given = leaves refl

module _ (repos : List Repo) where
  abbrev coming : Plan → List Name
  coming plan = flat_map (paths_with repos) plan

  abbrev names : Plan → List Name
  names plan = map part_name plan

  parts-append : (xs ys : Plan) → made_parts repos (xs ++ ys) ≡ made_parts repos xs ++ made_parts repos ys
  parts-append xs ys = flat-append (made_by repos) xs ys

  abbrev AreGiven : Plan → Type 0
  AreGiven plan = AllByRecursion (IsGiven repos) plan

  given_left : (xs ys : Plan) → AreGiven (xs ++ ys) → AreGiven xs
  given_left [] ys all = tt
  given_left (x ∷ xs) ys all = (all.0, given_left xs ys all.1)

  given_right : (xs ys : Plan) → AreGiven (xs ++ ys) → AreGiven ys
  given_right [] ys all = all
  given_right (x ∷ xs) ys all = given_right xs ys all.1

  -- the names, paths and the rest of a step as a change
  names_made : (step : Plan) → AreGiven step → spoken_names (made_parts repos step) ≡ names step
  names_made [] given = refl
  names_made (part ∷ step) given =
      flat-append spoken_names_by (made_by repos part) (made_parts repos step)
      ∙ ap (λ (l : List Name). spoken_names (made_by repos part) ++ l) (names_made step given.1)
      ∙ by (part_made repos part given.0)
    where
      by : PartMade repos part → spoken_names (made_by repos part) ++ names step ≡ part_name part ∷ names step
      by (brings e made name paths) = ap (λ (l : List Part). spoken_names l ++ names step) made ∙ ap (λ (n : Name). n ∷ names step) name
      by (leaves made) = ap (λ (l : List Part). spoken_names l ++ names step) made

  paths_made : (step : Plan) → AreGiven step → IsPart (spoken_paths (made_parts repos step)) (coming step)
  paths_made [] given = part-nil []
  paths_made (part ∷ step) given =
      subst (λ (l : List Name). IsPart l (coming (part ∷ step))) (sym (flat-append spoken_paths_by (made_by repos part) (made_parts repos step)))
      (part-append (spoken_paths (made_by repos part)) (spoken_paths (made_parts repos step)) (paths_with repos part) (coming step) (by (part_made repos part given.0)) (paths_made step given.1))
    where
      by : PartMade repos part → IsPart (spoken_paths (made_by repos part)) (paths_with repos part)
      by (brings e made name paths) =
          subst (λ (l : List Part). IsPart (spoken_paths l) (paths_with repos part)) (sym made)
          (subst (λ (l : List Name). IsPart (own e ++ []) l) (sym paths) (subst (λ (l : List Name). IsPart l (listed_paths e)) (sym (append_nil (own e))) (own_part e)))
      by (leaves made) = subst (λ (l : List Part). IsPart (spoken_paths l) (paths_with repos part)) (sym made) (part-nil (paths_with repos part))

  puts_made : (step : Plan) → AreGiven step → AllByRecursion PutsOwn (made_parts repos step)
  puts_made [] given = tt
  puts_made (part ∷ step) given = by (part_made repos part given.0) (puts_made step given.1)
    where
      by : PartMade repos part → AllByRecursion PutsOwn (made_parts repos step) → AllByRecursion PutsOwn (made_by repos part ++ made_parts repos step)
      by (brings e made name paths) rest = subst (λ (l : List Part). AllByRecursion PutsOwn (l ++ made_parts repos step)) (sym made) (tt, rest)
      by (leaves made) rest = subst (λ (l : List Part). AllByRecursion PutsOwn (l ++ made_parts repos step)) (sym made) (tt, rest)

  none_loose : (step : Plan) → AreGiven step → loose_paths (made_parts repos step) ≡ []
  none_loose [] given = refl
  none_loose (part ∷ step) given = flat-append loose_paths_by (made_by repos part) (made_parts repos step) ∙ ap (λ (l : List Name). loose_paths (made_by repos part) ++ l) (none_loose step given.1)
      ∙ by (part_made repos part given.0)
    where
      by : PartMade repos part → loose_paths (made_by repos part) ++ [] ≡ []
      by (brings e made name paths) = ap (λ (l : List Part). loose_paths l ++ []) made
      by (leaves made) = ap (λ (l : List Part). loose_paths l ++ []) made

  after-append : (xs ys : List Part) (os : List Object) → entries_after (xs ++ ys) os ≡ entries_after ys (entries_after xs os)
  after-append [] ys os = refl
  after-append (x ∷ xs) ys os = after-append xs ys (entries_by x os)

  module _ (db : List Object) where
    -- an entry is found by each test that it passes
    abbrev IsFound : Object → Type 0
    IsFound o = (test : Object → Bool) → test o ≡ true → list_any test db ≡ true

    found_all : (os : List Object) → ((test : Object → Bool) → list_any test os ≡ true → list_any test db ≡ true) → AllByRecursion IsFound os
    found_all [] within = tt
    found_all (o ∷ os) within =
        (λ test is. within test (ap (λ t. t || list_any test os) is), found_all os (λ test is. within test (ap (λ t. test o || t) is ∙ or_right (test o) true refl)))

    -- an entry that stands while a step is made behind others: one of the first that no part so far speaks of, one that came before the step, one that comes with it
    data Kept (before step : Plan) (o : Object) : Type 0 where
      stays : IsFound o → has_name o.name (names (before ++ step)) ≡ false → Kept before step o
      came : ((path : Name) → has_name path (own o) ≡ true → has_name path (coming before) ≡ true) → Kept before step o
      put : ((path : Name) → has_name path (own o) ≡ true → has_name path (coming step) ≡ true) → has_name o.name (put_names (made_parts repos step)) ≡ true → Kept before step o

    abbrev AreKept : Plan → Plan → List Object → Type 0
    AreKept before step os = AllByRecursion (Kept before step) os

    all_weaker : (P Q : Object → Type 0) (os : List Object) → ((o : Object) → P o → Q o) → AllByRecursion P os → AllByRecursion Q os
    all_weaker P Q [] weaker all = tt
    all_weaker P Q (o ∷ os) weaker all = (weaker o all.0, all_weaker P Q os weaker all.1)

    all_others : (P Q : Object → Type 0) (gone : Name) (os : List Object) → ((o : Object) → P o → same_name o.name gone ≡ false → Q o) → AllByRecursion P os → AllByRecursion Q (others gone os)
    all_others P Q gone [] weaker all = tt
    all_others P Q gone (o ∷ os) weaker all = by (same_name o.name gone) refl (all_others P Q gone os weaker all.1)
      where
        by : (t : Bool) → same_name o.name gone ≡ t → AllByRecursion Q (others gone os) → AllByRecursion Q (cond (not t) (o ∷ others gone os) (others gone os))
        by true is rest = rest
        by false is rest = (weaker o all.0 is, rest)

    all_insert : (Q : Object → Type 0) (e : Object) (os : List Object) → Q e → AllByRecursion Q os → AllByRecursion Q (insert_by (λ (o : Object). o.name) e os)
    all_insert Q e [] here all = (here, tt)
    all_insert Q e (o ∷ os) here all = by (comes_before e.name o.name) (all_insert Q e os here all.1)
      where
        by : (t : Bool) → AllByRecursion Q (insert_by (λ (o : Object). o.name) e os) → AllByRecursion Q (cond t (e ∷ o ∷ os) (o ∷ insert_by (λ (o : Object). o.name) e os))
        by true rest = (here, all)
        by false rest = (all.0, rest)

    names_more : (before step : Plan) (part : PlanPart) → names (before ++ (step ++ part ∷ [])) ≡ names (before ++ step) ++ part_name part ∷ []
    names_more before step part = ap names (sym (append_assoc before step (part ∷ []))) ∙ map-append part_name (before ++ step) (part ∷ [])

    puts_more : (step : Plan) (part : PlanPart) → put_names (made_parts repos (step ++ part ∷ [])) ≡ put_names (made_parts repos step) ++ put_names (made_by repos part)
    puts_more step part = ap put_names (flat_more (made_by repos) step part) ∙ flat-append put_by (made_parts repos step) (made_by repos part)

    -- what stood before a part of another name
    kept_more : (before step : Plan) (part : PlanPart) (o : Object) → Kept before step o → same_name o.name (part_name part) ≡ false → Kept before (step ++ part ∷ []) o
    kept_more before step part o (stays first none) apart =
        stays first (ap (has_name o.name) (names_more before step part)
        ∙ neither_has o.name (names (before ++ step)) (part_name part ∷ []) none (ap (λ t. t || false) apart))
    kept_more before step part o (came within) apart = came within
    kept_more before step part o (put within is) apart =
        put (λ path has. ap (has_name path) (flat_more (paths_with repos) step part) ∙ has_left path (coming step) (paths_with repos part) (within path has))
        (ap (has_name o.name) (puts_more step part) ∙ has_left o.name (put_names (made_parts repos step)) (put_names (made_by repos part)) is)

    kept_part : (before step : Plan) (part : PlanPart) (os : List Object) → PartMade repos part → AreKept before step os → AreKept before (step ++ part ∷ []) (entries_after (made_by repos part) os)
    kept_part before step part os (brings e made name paths) all =
        subst (λ (l : List Part). AreKept before (step ++ part ∷ []) (entries_after l os)) (sym made)
        (all_insert (Kept before (step ++ part ∷ [])) (less_containers e) (others e.name os)
        (put (λ path has. ap (has_name path) (flat_more (paths_with repos) step part)
        ∙ has_right path (coming step) (paths_with repos part) (ap (has_name path) paths ∙ (own_part e).among path has))
        (ap (has_name e.name) (puts_more step part ∙ ap (λ (l : List Part). put_names (made_parts repos step) ++ put_names l) made)
        ∙ has_right e.name (put_names (made_parts repos step)) (e.name ∷ []) (ap (λ t. t || false) (same_name-refl e.name))))
        (all_others (Kept before step) (Kept before (step ++ part ∷ [])) e.name os
        (λ o kept apart. kept_more before step part o kept (ap (same_name o.name) (sym name) ∙ apart)) all))
    kept_part before step part os (leaves made) all =
        subst (λ (l : List Part). AreKept before (step ++ part ∷ []) (entries_after l os)) (sym made)
        (all_others (Kept before step) (Kept before (step ++ part ∷ [])) (part_name part) os (kept_more before step part) all)

    kept_parts : (before step more : Plan) (os : List Object) → AreGiven more → AreKept before step os → AreKept before (step ++ more) (entries_after (made_parts repos more) os)
    kept_parts before step [] os given all = subst (λ (l : Plan). AreKept before l os) (sym (append_nil step)) all
    kept_parts before step (part ∷ more) os given all =
        subst (λ (l : List Object). AreKept before (step ++ part ∷ more) l) (sym (after-append (made_by repos part) (made_parts repos more) os))
        (subst (λ (l : Plan). AreKept before l (entries_after (made_parts repos more) (entries_after (made_by repos part) os))) (append_assoc step (part ∷ []) more)
        (kept_parts before (step ++ part ∷ []) more (entries_after (made_by repos part) os) given.1 (kept_part before step part os (part_made repos part given.0) all)))

    -- what stands behind a step
    kept_behind : (before step : Plan) (os : List Object) → AreKept before step os → AreKept (before ++ step) [] os
    kept_behind before step os all = all_weaker (Kept before step) (Kept (before ++ step) []) os at_one all
      where
        at_one : (o : Object) → Kept before step o → Kept (before ++ step) [] o
        at_one o (stays first none) = stays first (ap (λ (l : Plan). has_name o.name (names l)) (append_nil (before ++ step)) ∙ none)
        at_one o (came within) = came (λ path has. ap (has_name path) (flat-append (paths_with repos) before step) ∙ has_left path (coming before) (coming step) (within path has))
        at_one o (put within is) = came (λ path has. ap (has_name path) (flat-append (paths_with repos) before step) ∙ has_right path (coming before) (coming step) (within path has))

    -- ---- the cuts

    abbrev AreClean : Plan → List Plan → Type 0
    AreClean before [] = Unit {0}
    AreClean before (step ∷ steps) =
        (is_any_touching (coming (before ++ step)) (flat_map (files_with db) (flat_map (λ s. s) steps)) ≡ false) × AreClean (before ++ step) steps

    untouched : (paths : List Name) → is_any_touching paths [] ≡ false
    untouched [] = refl
    untouched (path ∷ paths) = untouched paths

    record IsCut (before plan : Plan) (steps : List Plan) : Type 0 where
      clean : AreClean before steps
      whole : flat_map (λ s. s) steps ≡ plan

    onto_cut : (before plan : Plan) (part : PlanPart) (steps : List Plan) → IsCut (before ++ part ∷ []) plan steps → IsCut before (part ∷ plan) (onto_first part steps)
    onto_cut before plan part [] cut = record { clean = (untouched (coming (before ++ part ∷ [])), tt); whole = ap (λ (l : Plan). part ∷ l) cut.whole }
    onto_cut before plan part (step ∷ steps) cut = record {
      clean = subst (λ (l : Plan). (is_any_touching (coming l) (flat_map (files_with db) (flat_map (λ s. s) steps)) ≡ false) × AreClean l steps) (append_assoc before (part ∷ []) step) cut.clean;
      whole = ap (λ (l : Plan). part ∷ l) cut.whole;
    }

    cut_all : (before plan : Plan) → IsCut before plan (cuts_behind repos db (coming before) plan)
    cut_all before [] = record { clean = tt; whole = refl }
    cut_all before (part ∷ plan) = by (is_any_touching (coming before ++ paths_with repos part) (flat_map (files_with db) plan)) refl
        (subst (λ (l : List Name). IsCut (before ++ part ∷ []) plan (cuts_behind repos db l plan)) (flat_more (paths_with repos) before part) (cut_all (before ++ part ∷ []) plan))
      where
        steps : List Plan
        steps = cuts_behind repos db (coming before ++ paths_with repos part) plan

        by : (t : Bool) → is_any_touching (coming before ++ paths_with repos part) (flat_map (files_with db) plan) ≡ t → IsCut (before ++ part ∷ []) plan steps
            → IsCut before (part ∷ plan) (cond t (onto_first part steps) ((part ∷ []) ∷ steps))
        by true is cut = onto_cut before plan part steps cut
        by false is cut = record {
          clean = (
            ap (λ (l : List Name). is_any_touching l (flat_map (files_with db) (flat_map (λ s. s) steps))) (flat_more (paths_with repos) before part)
                ∙ ap (λ (l : Plan). is_any_touching (coming before ++ paths_with repos part) (flat_map (files_with db) l)) cut.whole ∙ is,
            cut.clean,
          );
          whole = ap (λ (l : Plan). part ∷ l) cut.whole;
        }

    -- ---- the files that stay

    outside : (all : List Name) (path : Name) (o : Object) → owned_at db all path ≡ None → IsFound o → has_name o.name all ≡ false → has_name path (own o) ≡ false
    outside all path o none found apart = false_from_ne_true _ (λ has. true≢false
        (sym (found (owns_outside all path) (ap (λ t. not t && list_any (is_touching path) (own o)) (same_among o.name all ∙ apart) ∙ touches_name path (own o) has))
        ∙ unfound (owns_outside all path) (λ (entry : Object). Owned path entry.name) db none))

    in_files : (after : Plan) (path : Name) (o : Object) → has_name o.name (names after) ≡ true → IsFound o → has_name path (own o) ≡ true
        → has_name path (flat_map (files_with db) after) ≡ true
    in_files [] path o there found has = absurd (true≢false (sym there))
    in_files (part ∷ after) path o there found has = elim (cases_Bool (same_name o.name (part_name part))) [
      | inl same ↦ has_left path (files_with db part) (flat_map (files_with db) after)
          (any_flat (same_name path) own (filter (λ (e : Object). same_name e.name (part_name part)) db)
          ∙ any_filter (λ (e : Object). has_name path (own e)) (λ (e : Object). same_name e.name (part_name part)) db
          ∙ found (λ (e : Object). same_name e.name (part_name part) && has_name path (own e)) (ap (λ t. t && has_name path (own o)) same ∙ has))
      | inr apart ↦ has_right path (files_with db part) (flat_map (files_with db) after)
          (in_files after path o (ap (λ t. t || has_name o.name (names after)) (sym apart) ∙ there) found has)
    ]

    none_kept : (puts : List Name) (path : Name) (os : List Object) → AllByRecursion (λ (o : Object). has_name o.name puts ≡ false → has_name path (own o) ≡ false) os
        → has_name path (flat_map own (filter (λ (o : Object). not (has_name o.name puts)) os)) ≡ false
    none_kept puts path [] all = refl
    none_kept puts path (o ∷ os) all = by (has_name o.name puts) refl (none_kept puts path os all.1)
      where
        by : (t : Bool) → has_name o.name puts ≡ t → has_name path (flat_map own (filter (λ (o : Object). not (has_name o.name puts)) os)) ≡ false
            → has_name path (flat_map own (cond (not t) (o ∷ filter (λ (o : Object). not (has_name o.name puts)) os) (filter (λ (o : Object). not (has_name o.name puts)) os))) ≡ false
        by true is rest = rest
        by false is rest = neither_has path (own o) (flat_map own (filter (λ (o : Object). not (has_name o.name puts)) os)) (all.0 is) rest

    all_from : (P : Name → Type 0) (paths : List Name) → ((path : Name) → has_name path paths ≡ true → P path) → AllByRecursion P paths
    all_from P [] each = tt
    all_from P (path ∷ paths) each =
        (each path (ap (λ t. t || has_name path paths) (same_name-refl path)), all_from P paths (λ other has. each other (or_right (same_name other path) (has_name other paths) has)))

    -- ---- the changes

    module _ (plan : Plan) (once : AreOnce (coming plan)) (named_once : AreOnce (names plan)) (given : AreGiven plan)
        (free : (path : Name) → has_name path (coming plan) ≡ true → owned_at db (names plan) path ≡ None)
        (unreserved : AllByRecursion (λ part. OwnsListed (part_entry repos part)) plan) where
      change_of : (before step after : Plan) (os : List Object) → before ++ (step ++ after) ≡ plan → AreKept before [] os
          → is_any_touching (coming (before ++ step)) (flat_map (files_with db) after) ≡ false → (line : Name) → IsLabel line → IsChange os (made_parts repos step) line
      change_of before step after os whole kept clean line label = record {
        names = subst AreOnce (sym (names_made step given_step)) once_names;
        paths = (paths_made step given_step).once once_step;
        puts = puts_made step given_step;
        keeps = all_from (λ path. has_name path (kept_paths os (made_parts repos step)) ≡ false) (spoken_paths (made_parts repos step)) (λ path has.
            none_kept (put_names (made_parts repos step)) path (entries_after (made_parts repos step) os)
            (all_weaker (Kept before step) (λ (o : Object). has_name o.name (put_names (made_parts repos step)) ≡ false → has_name path (own o) ≡ false) (entries_after (made_parts repos step) os)
            (λ o. clear path ((paths_made step given_step).among path has) o) (kept_parts before [] step os given_step kept)));
        beside = subst (λ (l : List Name). AllByRecursion IsLoose l) (sym (none_loose step given_step)) tt;
        label = label;
      }
        where
          given_step : AreGiven step
          given_step = given_left step after (given_right before (step ++ after) (subst AreGiven (sym whole) given))

          parts_once : AreOnce (coming before ++ coming (step ++ after))
          parts_once = subst AreOnce (ap coming (sym whole) ∙ flat-append (paths_with repos) before (step ++ after)) once

          once_step : AreOnce (coming step)
          once_step = once-left (coming step) (coming after)
              (subst AreOnce (flat-append (paths_with repos) step after) (once-right (coming before) (coming (step ++ after)) parts_once))

          once_names : AreOnce (names step)
          once_names = once-left (names step) (names after) (subst AreOnce (map-append part_name step after)
              (once-right (names before) (names (step ++ after)) (subst AreOnce (ap names (sym whole) ∙ map-append part_name before (step ++ after)) named_once)))

          here_left : (path : Name) → has_name path (coming step) ≡ true → has_name path (coming (step ++ after)) ≡ true
          here_left path has = ap (has_name path) (flat-append (paths_with repos) step after) ∙ has_left path (coming step) (coming after) has

          clear : (path : Name) → has_name path (coming step) ≡ true → (o : Object) → Kept before step o → has_name o.name (put_names (made_parts repos step)) ≡ false → has_name path (own o) ≡ false
          clear path has o (put within is) off = absurd (true≢false (sym is ∙ off))
          clear path has o (came within) off = false_from_ne_true _ (λ owns.
              true≢false (sym (here_left path has) ∙ once-cross (coming before) (coming (step ++ after)) parts_once path (within path owns)))
          clear path has o (stays first none) off = elim (cases_Bool (has_name o.name (names after))) [
            | inl later ↦ false_from_ne_true _ (λ owns. true≢false (sym (touch_any path (coming (before ++ step)) (flat_map (files_with db) after)
                (ap (has_name path) (flat-append (paths_with repos) before step) ∙ has_right path (coming before) (coming step) has) (in_files after path o later first owns)) ∙ clean))
            | inr never ↦ outside (names plan) path o
                (free path (ap (λ (l : Plan). has_name path (coming l)) (sym whole) ∙ ap (has_name path) (flat-append (paths_with repos) before (step ++ after))
                ∙ has_right path (coming before) (coming (step ++ after)) (here_left path has))) first
                (ap (λ (l : Plan). has_name o.name (names l)) (sym whole ∙ sym (append_assoc before step after)) ∙ ap (has_name o.name) (map-append part_name (before ++ step) after)
                ∙ neither_has o.name (names (before ++ step)) (names after) none never)
          ]

      all_on : (R : PlanPart → Type 0) (xs ys : Plan) → AllByRecursion R (xs ++ ys) → AllByRecursion R xs × AllByRecursion R ys
      all_on R [] ys all = (tt, all)
      all_on R (x ∷ xs) ys all = let rest = all_on R xs ys all.1 in ((all.0, rest.0), rest.1)

      changes_from : (before : Plan) (steps : List Plan) (os : List Object) → before ++ flat_map (λ s. s) steps ≡ plan → AreKept before [] os → AreClean before steps → AreChanges repos os steps
      changes_from before [] os whole kept clean = tt
      changes_from before (step ∷ steps) os whole kept clean = (
        change_of before step (flat_map (λ s. s) steps) os whole kept clean.0,
        (all_on (λ part. OwnsListed (part_entry repos part)) step (flat_map (λ s. s) steps)
            (all_on (λ part. OwnsListed (part_entry repos part)) before (step ++ flat_map (λ s. s) steps)
            (subst (λ (l : Plan). AllByRecursion (λ part. OwnsListed (part_entry repos part)) l) (sym whole) unreserved)).1).0,
        changes_from (before ++ step) steps (entries_after (made_parts repos step) os) (append_assoc before step (flat_map (λ s. s) steps) ∙ whole)
            (kept_behind before step (entries_after (made_parts repos step) os)
            (kept_parts before [] step os (given_left step (flat_map (λ s. s) steps) (given_right before (step ++ flat_map (λ s. s) steps) (subst AreGiven (sym whole) given))) kept)) clean.1,
      )

      -- the steps of a plan are changes
      pub are_changes : AreChanges repos db (plan_cuts repos db plan)
      are_changes =
          let cut : IsCut [] plan (plan_cuts repos db plan) = cut_all [] plan in
          changes_from [] (plan_cuts repos db plan) db cut.whole
          (all_weaker IsFound (Kept [] []) db (λ o found. stays found refl) (found_all db (λ test is. is))) cut.clean

-- the steps of a plan whose entries aren't refused are changes
pub changes_of : (repos : List Repo) (db : List Object) (plan : Plan) → AreOnce (map part_name plan) → AllByRecursion (IsGiven repos) plan
    → entries_fault db (map part_name plan) (plan_entries repos plan) ≡ None → AreChanges repos db (plan_cuts repos db plan)
changes_of repos db plan once given none =
    let free : IsFree db (map part_name plan) (plan_entries repos plan) = free_of db (map part_name plan) (plan_entries repos plan) none in
    are_changes repos db plan (subst AreOnce (sym (paths_entries repos plan)) free.once) once given
    (λ path has. free.owned path (ap (has_name path) (sym (paths_entries repos plan)) ∙ has)) (plan_unreserved repos plan free.unreserved_all)
