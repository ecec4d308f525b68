-- The parts of an update's plan: each that comes is given, and no two are of one package.
use Rattle.std.proofs.Common.{◌≡◌, ◌⊎◌, ℕ, Bool, true, false, cond, ◌||◌, ◌&&◌, List, [], ◌∷◌, ◌++◌, map, Option, Some, None, refl, sym, ap, subst, ◌∙◌, inl, inr}
use Rattle.std.specs.Prelude.{filter, not, is_some, option_map, reverse}
use Rattle.std.specs.List.{cons_option, AllByRecursion}
use Rattle.std.specs.Str.{bytes_eq}
use Rattle.std.proofs.lemmas.Bool.{cases_Bool, true≢false, false_from_ne_true}
use Rattle.std.proofs.lemmas.List.Folds.{list_any-append}
use Rattle.std.proofs.lemmas.List.Sorted.{IsPermutation-reverse, list_any-IsPermutation}
use Rattle.std.proofs.lemmas.Map.Keys.{IsDistinct-IsPermutation}
use Rattle.std.specs.Cmp.Lexicographic.{texts_ties}
use Rattle.tl_model.specs.Volume.{Name, same_name, same_name-is}
use Rattle.tl_entry.specs.FilePaths.{rising_of}
use Rattle.tl_entry.proofs.SetLemmas.{has-rising_of, rising-rising_of}
use Rattle.tl_entry.specs.declared.object.Object.{Object}
use Rattle.tl_path.specs.declared.kinds.Category.{Category}
use Rattle.tl_path.specs.declared.kinds.Category.TheVariants.{Package, Collection, Scheme}
use Rattle.tl_db.specs.Entries.{entry_of}
use Rattle.tl_db.specs.declared.repo.Repo.{Repo}
use Rattle.tl_pin.specs.declared.line.PinLine.{PinLine}
use Rattle.tl_pin.specs.Candidates.{candidate_of, view_entry}
use Rattle.tl_tree.specs.Staged.{has_name}
use Rattle.tl_tree.proofs.Distinct.{AreOnce, once-append, part-none, neither_has}
use Rattle.tl_depend.specs.Needed.{tree_platforms}
use Rattle.tl_plan.specs.Removal.{is_among, is_protected}
use Rattle.tl_plan.proofs.SetLaws.{same_either}
use Rattle.tl_coming.specs.Made.{IsGiven}
use Rattle.tl_coming.specs.Parts.{part_name}
use Rattle.tl_coming.specs.declared.part.PlanPart.{PlanPart}
use Rattle.tl_coming.specs.declared.part.PlanPart.TheVariants.{Remove, Update, Install}
use Rattle.tl_coming.proofs.OnceLaws.{same_among}
use Rattle.tl_bring.specs.Coming.{ranked, order_by, parts_in}
use Rattle.tl_bring.specs.Installation.{arrival_from, arrivals}
use Rattle.tl_bring.proofs.ArrivalLaws.{all_given, arrivals_once, filtered_part, order_once, rising_once, same_key}
use Rattle.tl_renew.specs.Unasked.{collected, may_leave, auto_removed}
use Rattle.tl_renew.specs.Updated.{renewed_names}
use Rattle.tl_renew.specs.Updating.{dropped_names, unasked_names, left_names, update_names, update_plan}
use Rattle.tl_renew.specs.declared.ask.UpdateAsk.{UpdateAsk}
use Rattle.tl_renew.proofs.SameLaws.{Texts, among_filter}

flips : (a b : Name) → same_name a b ≡ same_name b a
flips a b = sym (texts_ties a b) ∙ same_either a b

reverse_once : (names : List Name) → AreOnce names → AreOnce (reverse names)
reverse_once names once = IsDistinct-IsPermutation same_name flips names (reverse names) (IsPermutation-reverse names) once

reverse_has : (name : Name) (names : List Name) → has_name name (reverse names) ≡ has_name name names
reverse_has name names = sym (list_any-IsPermutation (λ (n : Name). same_name name n) names (reverse names) (IsPermutation-reverse names))

-- names in order have no other names
order_none : (entry : Name → Option Object) (names : List Name) (name : Name) → has_name name names ≡ false → has_name name (order_by entry names) ≡ false
order_none entry names name none =
    let each : (c : Category) → has_name name (ranked entry c names) ≡ false = λ c. part-none (ranked entry c names) names (filtered_part _ names) name none in
    neither_has name (ranked entry Package names) (ranked entry Collection names ++ ranked entry Scheme names) (each Package)
    (neither_has name (ranked entry Collection names) (ranked entry Scheme names) (each Collection) (each Scheme))

rising_has : (name : Name) (names : List Name) → has_name name (rising_of names) ≡ is_among name names
rising_has name names = sym (same_key name (rising_of names)) ∙ has-rising_of name names ∙ same_key name names ∙ sym (same_among name names)

from_named : (replaced : List Object) (name : Name) (place : ℕ) → part_name (arrival_from replaced name place) ≡ name
from_named replaced name place = by (is_some (entry_of name replaced))
  where
    by : (t : Bool) → part_name (cond t (Update name place) (Install name place)) ≡ name
    by true = refl
    by false = refl

-- packages that come have candidates
arrival_known : (pins : List PinLine) (repos : List Repo) (replaced : List Object) (names : List Name) (name : Name)
    → has_name name (map part_name (arrivals pins repos replaced names)) ≡ true → is_some (candidate_of pins repos name) ≡ true
arrival_known pins repos replaced [] name has = absurd (true≢false (sym has))
arrival_known pins repos replaced (n ∷ names) name has = by (candidate_of pins repos n) refl has (arrival_known pins repos replaced names name)
  where
    at : (c : ℕ × Object) → candidate_of pins repos n ≡ Some c → (same_name name (part_name (arrival_from replaced n c.0)) ≡ true) ⊎ (same_name name (part_name (arrival_from replaced n c.0)) ≡ false)
        → (same_name name (part_name (arrival_from replaced n c.0)) || has_name name (map part_name (arrivals pins repos replaced names))) ≡ true
        → (has_name name (map part_name (arrivals pins repos replaced names)) ≡ true → is_some (candidate_of pins repos name) ≡ true) → is_some (candidate_of pins repos name) ≡ true
    at c found (inl same) has rest =
        ap (λ (m : Name). is_some (candidate_of pins repos m)) (same_name-is name (part_name (arrival_from replaced n c.0)) same ∙ from_named replaced n c.0) ∙ ap is_some found
    at c found (inr apart) has rest = rest (ap (λ t. t || has_name name (map part_name (arrivals pins repos replaced names))) (sym apart) ∙ has)

    by : (o : Option (ℕ × Object)) → candidate_of pins repos n ≡ o
        → has_name name (map part_name (cons_option (option_map (λ (c : ℕ × Object). arrival_from replaced n c.0) o) (arrivals pins repos replaced names))) ≡ true
        → (has_name name (map part_name (arrivals pins repos replaced names)) ≡ true → is_some (candidate_of pins repos name) ≡ true) → is_some (candidate_of pins repos name) ≡ true
    by None found has rest = rest has
    by (Some c) found has rest = at c found (cases_Bool (same_name name (part_name (arrival_from replaced n c.0)))) has rest

removes_given : (repos : List Repo) (names : List Name) (plan : List PlanPart) → AllByRecursion (IsGiven repos) plan → AllByRecursion (IsGiven repos) (map Remove names ++ plan)
removes_given repos [] plan all = all
removes_given repos (name ∷ names) plan all = (tt, removes_given repos names plan all)

removes_named : (names : List Name) (plan : List PlanPart) → map part_name (map Remove names ++ plan) ≡ names ++ map part_name plan
removes_named [] plan = refl
removes_named (name ∷ names) plan = ap (λ (ns : List Name). name ∷ ns) (removes_named names plan)

module _ (pins : List PinLine) (repos : List Repo) (db : List Object) (names : Texts) (ask : UpdateAsk) where
  abbrev entry : Name → Option Object
  entry = view_entry pins repos db

  -- a package that a repository gives doesn't leave
  known_stays : (name : Name) → is_some (candidate_of pins repos name) ≡ true → may_leave pins repos db name ≡ false
  known_stays name known = ap (λ t. not (is_protected name) && (is_some (entry_of name db) && not t)) known ∙ none (not (is_protected name)) (is_some (entry_of name db))
    where
      none : (a b : Bool) → (a && (b && false)) ≡ false
      none true true = refl
      none true false = refl
      none false b = refl

  stays_dropped : (name : Name) → may_leave pins repos db name ≡ false → is_among name (dropped_names pins repos db ask) ≡ false
  stays_dropped name stays = by (ask.all && ask.auto_remove)
    where
      off : (some : Texts) → is_among name (filter (may_leave pins repos db) some) ≡ false
      off some = among_filter (may_leave pins repos db) name some ∙ ap (λ t. t && is_among name some) stays

      by : (t : Bool) → is_among name (cond t (auto_removed pins repos db) []) ≡ false
      by true =
          let leaving : Texts = filter (may_leave pins repos db) (collected db) in
          let parts : Texts = parts_in entry (tree_platforms db) leaving in
          list_any-append (bytes_eq name) leaving (filter (may_leave pins repos db) parts)
          ∙ ap (λ t. t || is_among name (filter (may_leave pins repos db) parts)) (off (collected db)) ∙ off parts
      by false = refl

  stays_left : (name : Name) → may_leave pins repos db name ≡ false → has_name name (left_names pins repos db ask) ≡ false
  stays_left name stays =
      let dropped : Texts = dropped_names pins repos db ask in
      reverse_has name (order_by entry (rising_of dropped))
      ∙ order_none entry (rising_of dropped) name (rising_has name dropped ∙ stays_dropped name stays)

  known_left : (name : Name) → is_some (candidate_of pins repos name) ≡ true → has_name name (left_names pins repos db ask) ≡ false
  known_left name known = stays_left name (known_stays name known)

  -- a package that isn't installed doesn't leave
  absent_stays : (name : Name) → is_some (entry_of name db) ≡ false → may_leave pins repos db name ≡ false
  absent_stays name absent =
      ap (λ t. not (is_protected name) && (t && not (is_some (candidate_of pins repos name)))) absent ∙ none (not (is_protected name))
    where
      none : (t : Bool) → (t && false) ≡ false
      none true = refl
      none false = refl

  -- a package that leaves is installed
  pub left_installed : (name : Name) → has_name name (left_names pins repos db ask) ≡ true → is_some (entry_of name db) ≡ true
  left_installed name has = by (cases_Bool (is_some (entry_of name db)))
    where
      by : (is_some (entry_of name db) ≡ true) ⊎ (is_some (entry_of name db) ≡ false) → is_some (entry_of name db) ≡ true
      by (inl is) = is
      by (inr absent) = absurd (true≢false (sym has ∙ stays_left name (absent_stays name absent)))

  -- each package that comes is given
  pub update_given : AllByRecursion (IsGiven repos) (update_plan pins repos db names ask)
  unfolding update_plan
  update_given = removes_given repos (left_names pins repos db ask) _ (all_given pins repos db (update_names pins repos db names ask))

  -- no two parts are of one package
  pub update_once : AreOnce (map part_name (update_plan pins repos db names ask))
  unfolding update_plan
  update_once =
      let left : List Name = left_names pins repos db ask in
      let come : List PlanPart = arrivals pins repos db (update_names pins repos db names ask) in
      let dropped : Texts = dropped_names pins repos db ask in
      subst AreOnce (sym (removes_named left come)) (once-append left (map part_name come)
      (reverse_once (order_by entry (rising_of dropped)) (order_once entry (rising_of dropped) (rising_once (rising_of dropped) (rising-rising_of dropped))))
      (arrivals_once pins repos db entry (renewed_names pins repos db names ask ++ unasked_names pins repos db ask))
      (λ name has. false_from_ne_true _ (λ there. true≢false
      (sym has ∙ known_left name (arrival_known pins repos db (update_names pins repos db names ask) name there)))))
