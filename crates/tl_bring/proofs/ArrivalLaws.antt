-- The parts by which packages come: each from a repository that has it, and no two of one package.
use Rattle.std.proofs.Common.{◌≡◌, ◌⊎◌, ℕ, suc, ◌+◌, Bool, true, false, cond, ◌||◌, ◌&&◌, List, [], ◌∷◌, ◌++◌, map, length, Option, Some, None, refl, sym, ap, subst, ◌∙◌, arith, inl, inr}
use Rattle.std.specs.Prelude.{filter, is_some, option_map, slice_get}
use Rattle.std.specs.List.{filter_map, cons_option, AllByRecursion}
use Rattle.std.specs.Str.{bytes_eq}
use Rattle.std.proofs.lemmas.Bool.{cases_Bool, true≢false, false_from_ne_true}
use Rattle.tl_model.specs.Volume.{Name, same_name, same_name-is}
use Rattle.tl_entry.specs.Rising.{has_key, is_rising, is_rising_after}
use Rattle.tl_entry.specs.FilePaths.{rising_of}
use Rattle.tl_entry.proofs.SetLemmas.{none_again, rising-rising_of}
use Rattle.tl_entry.specs.declared.object.Object.{Object}
use Rattle.tl_path.specs.declared.kinds.Category.{Category}
use Rattle.tl_path.specs.declared.kinds.Category.TheVariants.{Package, TLCore, ConTeXt, Collection, Scheme}
use Rattle.tl_db.specs.Entries.{entry_of}
use Rattle.tl_db.specs.declared.repo.Repo.{Repo}
use Rattle.tl_pin.specs.declared.line.PinLine.{PinLine}
use Rattle.tl_pin.specs.Candidates.{candidate_of, view_entry, entry_under, offer, main_pin, has_glob_for}
use Rattle.tl_depend.specs.Needed.{tree_platforms}
use Rattle.tl_depend.specs.Order.{entry_rank, same_rank, category_rank}
use Rattle.tl_tree.specs.Staged.{has_name}
use Rattle.tl_tree.proofs.Distinct.{AreOnce, IsPart, has_either, once-nil, once-cons, once-append, part-append, part-nil, part-same}
use Rattle.tl_coming.specs.Made.{IsGiven}
use Rattle.tl_coming.specs.Parts.{part_name, entry_at}
use Rattle.tl_coming.specs.declared.part.PlanPart.TheVariants.{Install, Update}
use Rattle.tl_coming.proofs.OnceLaws.{same_among}
use Rattle.tl_touch.proofs.Touching.{among_either}
use Rattle.tl_bring.specs.Coming.{ranked, order_by, known_entries, comes, names_again, looked_at, install_names}
use Rattle.tl_bring.specs.Reached.{all_named}
use Rattle.tl_bring.specs.Installation.{arrival_from, arrivals, install_plan}
use Rattle.tl_bring.specs.declared.coming.InstallAsk.{InstallAsk}

-- ---- what a candidate is

-- the entry that stands under a tag stands in the repository at the place that is told
record StandsAt (before place : ℕ) (rs : List Repo) (name : Name) (entry : Object) : Type 0 where
  at : ℕ
  is : place ≡ before + at
  there : entry_at rs at name ≡ Some entry

under_at : (before : ℕ) (rs : List Repo) (tag name : Name) (c : ℕ × Object) → entry_under before rs tag name ≡ Some c → StandsAt before c.0 rs name c.1
under_at before [] tag name c is = absurd (cc)
under_at before (repo ∷ rs) tag name c is = by (bytes_eq repo.tag tag) refl is (under_at (before + 1) rs tag name c)
  where
    here : (o : Option Object) → entry_of name repo.db ≡ o → option_map (λ (e : Object). (before, e)) o ≡ Some c → StandsAt before c.0 (repo ∷ rs) name c.1
    here None found is = absurd (cc)
    here (Some e) found is =
        let pair : (before, e) ≡ c = cc in record {
          at = 0;
          is = sym (ap (λ (p : ℕ × Object). p.0) pair) ∙ (let z : before ≡ before + 0 = omega arith in z);
          there = found ∙ ap (λ (p : ℕ × Object). Some p.1) pair;
        }

    by : (t : Bool) → bytes_eq repo.tag tag ≡ t → cond t (option_map (λ (e : Object). (before, e)) (entry_of name repo.db)) (entry_under (before + 1) rs tag name) ≡ Some c
        → (entry_under (before + 1) rs tag name ≡ Some c → StandsAt (before + 1) c.0 rs name c.1) → StandsAt before c.0 (repo ∷ rs) name c.1
    by true same is rest = here (entry_of name repo.db) refl is
    by false apart is rest =
        let stands : StandsAt (before + 1) c.0 rs name c.1 = rest is in record {
          at = suc stands.at;
          is = stands.is ∙ (let z : before + 1 + stands.at ≡ before + suc stands.at = omega arith in z);
          there = stands.there;
        }

module _ (repos : List Repo) (name : Name) where
  offer_at : (pin : PinLine) (c : ℕ × Object) → offer repos name pin ≡ Some c → entry_at repos c.0 name ≡ Some c.1
  offer_at pin c is = by (has_glob_for name pin) is
    where
      by : (t : Bool) → cond t (entry_under 0 repos pin.tag name) None ≡ Some c → entry_at repos c.0 name ≡ Some c.1
      by false is = absurd (cc)
      by true is =
          let stands : StandsAt 0 c.0 repos name c.1 = under_at 0 repos pin.tag name c is in
          let place : c.0 ≡ stands.at = stands.is ∙ (let z : 0 + stands.at ≡ stands.at = omega arith in z) in
          ap (λ (n : ℕ). entry_at repos n name) place ∙ stands.there

  offers_at : (pins : List PinLine) (c : ℕ × Object) → slice_get (filter_map (offer repos name) pins) 0 ≡ Some c → entry_at repos c.0 name ≡ Some c.1
  offers_at [] c is = absurd (cc)
  offers_at (pin ∷ pins) c is = by (offer repos name pin) refl is (offers_at pins c)
    where
      by : (o : Option (ℕ × Object)) → offer repos name pin ≡ o → slice_get (cons_option o (filter_map (offer repos name) pins)) 0 ≡ Some c
          → (slice_get (filter_map (offer repos name) pins) 0 ≡ Some c → entry_at repos c.0 name ≡ Some c.1) → entry_at repos c.0 name ≡ Some c.1
      by None found is rest = rest is
      by (Some d) found is rest = let same : d ≡ c = cc in offer_at pin c (found ∙ ap (λ (p : ℕ × Object). Some p) same)

  -- a candidate is the entry of its name in the repository at its place
  pub candidate_at : (pins : List PinLine) (c : ℕ × Object) → candidate_of pins repos name ≡ Some c → entry_at repos c.0 name ≡ Some c.1
  candidate_at pins c is = offers_at (pins ++ main_pin ∷ []) c is

-- ---- arrivals

from_given : (repos : List Repo) (replaced : List Object) (name : Name) (place : ℕ) → is_some (entry_at repos place name) ≡ true → IsGiven repos (arrival_from replaced name place)
from_given repos replaced name place there = by (is_some (entry_of name replaced))
  where
    by : (t : Bool) → IsGiven repos (cond t (Update name place) (Install name place))
    by true = there
    by false = there

from_named : (replaced : List Object) (name : Name) (place : ℕ) → part_name (arrival_from replaced name place) ≡ name
from_named replaced name place = by (is_some (entry_of name replaced))
  where
    by : (t : Bool) → part_name (cond t (Update name place) (Install name place)) ≡ name
    by true = refl
    by false = refl

-- each comes from a repository that has it
pub all_given : (pins : List PinLine) (repos : List Repo) (replaced : List Object) (names : List Name) → AllByRecursion (IsGiven repos) (arrivals pins repos replaced names)
all_given pins repos replaced [] = tt
all_given pins repos replaced (name ∷ names) = by (candidate_of pins repos name) refl (all_given pins repos replaced names)
  where
    by : (o : Option (ℕ × Object)) → candidate_of pins repos name ≡ o → AllByRecursion (IsGiven repos) (arrivals pins repos replaced names)
        → AllByRecursion (IsGiven repos) (cons_option (option_map (λ (c : ℕ × Object). arrival_from replaced name c.0) o) (arrivals pins repos replaced names))
    by None found rest = rest
    by (Some c) found rest = (from_given repos replaced name c.0 (ap is_some (candidate_at repos name pins c found)), rest)

-- they are of some of the names
pub names_part : (pins : List PinLine) (repos : List Repo) (replaced : List Object) (names : List Name) → IsPart (map part_name (arrivals pins repos replaced names)) names
names_part pins repos replaced [] = part-nil []
names_part pins repos replaced (name ∷ names) = by (candidate_of pins repos name) (names_part pins repos replaced names)
  where
    by : (o : Option (ℕ × Object)) → IsPart (map part_name (arrivals pins repos replaced names)) names
        → IsPart (map part_name (cons_option (option_map (λ (c : ℕ × Object). arrival_from replaced name c.0) o) (arrivals pins repos replaced names))) (name ∷ names)
    by None rest = part-append [] (map part_name (arrivals pins repos replaced names)) (name ∷ []) names (part-nil (name ∷ [])) rest
    by (Some c) rest = part-append (part_name (arrival_from replaced name c.0) ∷ []) (map part_name (arrivals pins repos replaced names)) (name ∷ []) names
        (subst (λ (n : Name). IsPart (n ∷ []) (name ∷ [])) (sym (from_named replaced name c.0)) (part-same (name ∷ []))) rest

-- ---- names in order

pub same_key : (name : Name) (all : List Name) → has_key (λ n. n) name all ≡ has_name name all
same_key name all = sym (among_either name all) ∙ same_among name all

tail_rising : (first : Name) (others : List Name) → is_rising_after (λ n. n) first others ≡ true → is_rising (λ n. n) others ≡ true
tail_rising first [] up = refl
tail_rising first (next ∷ others) up = (both _ _ up).1
  where
    both : (a b : Bool) → (a && b) ≡ true → (a ≡ true) × (b ≡ true)
    both true b e = (refl, e)
    both false b e = absurd (cc)

-- names that rise come once
pub rising_once : (names : List Name) → is_rising (λ n. n) names ≡ true → AreOnce names
rising_once [] up = once-nil
rising_once (name ∷ names) up = once-cons name names (sym (same_key name names) ∙ none_again name names up) (rising_once names (tail_rising name names up))

pub filtered_part : (q : Name → Bool) (xs : List Name) → IsPart (filter q xs) xs
filtered_part q [] = part-nil []
filtered_part q (x ∷ xs) = by (q x) (filtered_part q xs)
  where
    by : (t : Bool) → IsPart (filter q xs) xs → IsPart (cond t (x ∷ filter q xs) (filter q xs)) (x ∷ xs)
    by true rest = part-append (x ∷ []) (filter q xs) (x ∷ []) xs (part-same (x ∷ [])) rest
    by false rest = part-append [] (filter q xs) (x ∷ []) xs (part-nil (x ∷ [])) rest

filtered_passes : (q : Name → Bool) (xs : List Name) (name : Name) → has_name name (filter q xs) ≡ true → q name ≡ true
filtered_passes q [] name has = absurd (true≢false (sym has))
filtered_passes q (x ∷ xs) name has = by (q x) refl has (filtered_passes q xs name)
  where
    at : (has_name name (filter q xs) ≡ true → q name ≡ true) → q x ≡ true → (same_name name x ≡ true) ⊎ (same_name name x ≡ false) → (same_name name x || has_name name (filter q xs)) ≡ true → q name ≡ true
    at rest is (inl same) has = ap q (same_name-is name x same) ∙ is
    at rest is (inr apart) has = rest (ap (λ t. t || has_name name (filter q xs)) (sym apart) ∙ has)

    by : (t : Bool) → q x ≡ t → has_name name (cond t (x ∷ filter q xs) (filter q xs)) ≡ true → (has_name name (filter q xs) ≡ true → q name ≡ true) → q name ≡ true
    by true is has rest = at rest is (cases_Bool (same_name name x)) has
    by false is has rest = rest has

-- no entry has the ranks of both categories
abbrev AreApart : Category → Category → Type 0
AreApart one other = (o : Option Object) → same_rank (entry_rank o) (category_rank one) ≡ true → same_rank (entry_rank o) (category_rank other) ≡ false

-- names of two ranks have none in common
ranks_apart : (entry : Name → Option Object) (one other : Category) (names : List Name) → AreApart one other
    → (name : Name) → has_name name (ranked entry one names) ≡ true → has_name name (ranked entry other names) ≡ false
ranks_apart entry one other names apart name has = false_from_ne_true _ (λ there. true≢false
    (sym (filtered_passes (λ n. same_rank (entry_rank (entry n)) (category_rank other)) names name there)
    ∙ apart (entry name) (filtered_passes (λ n. same_rank (entry_rank (entry n)) (category_rank one)) names name has)))

member_collection : AreApart Package Collection
member_collection None is = refl
member_collection (Some e) is = by e.category is
  where
    by : (c : Category) → same_rank (category_rank c) (category_rank Package) ≡ true → same_rank (category_rank c) (category_rank Collection) ≡ false
    by Package is = refl
    by TLCore is = refl
    by ConTeXt is = refl
    by Collection is = absurd (true≢false (sym is))
    by Scheme is = refl

member_scheme : AreApart Package Scheme
member_scheme None is = refl
member_scheme (Some e) is = by e.category is
  where
    by : (c : Category) → same_rank (category_rank c) (category_rank Package) ≡ true → same_rank (category_rank c) (category_rank Scheme) ≡ false
    by Package is = refl
    by TLCore is = refl
    by ConTeXt is = refl
    by Collection is = refl
    by Scheme is = absurd (true≢false (sym is))

collection_scheme : AreApart Collection Scheme
collection_scheme None is = refl
collection_scheme (Some e) is = by e.category is
  where
    by : (c : Category) → same_rank (category_rank c) (category_rank Collection) ≡ true → same_rank (category_rank c) (category_rank Scheme) ≡ false
    by Package is = refl
    by TLCore is = refl
    by ConTeXt is = refl
    by Collection is = refl
    by Scheme is = absurd (true≢false (sym is))

-- names in the order in which they are installed come once
pub order_once : (entry : Name → Option Object) (names : List Name) → AreOnce names → AreOnce (order_by entry names)
order_once entry names once =
    let members : List Name = ranked entry Package names in
    let collections : List Name = ranked entry Collection names in
    let schemes : List Name = ranked entry Scheme names in
    let each : (c : Category) → AreOnce (ranked entry c names) = λ c. (filtered_part (λ n. same_rank (entry_rank (entry n)) (category_rank c)) names).once once in
    once-append members (collections ++ schemes) (each Package)
    (once-append collections schemes (each Collection) (each Scheme) (ranks_apart entry Collection Scheme names collection_scheme))
    (λ name has. false_from_ne_true _ (λ there. has_either name collections schemes
    (λ here. true≢false (sym here ∙ ranks_apart entry Package Collection names member_collection name has))
    (λ here. true≢false (sym here ∙ ranks_apart entry Package Scheme names member_scheme name has)) there))

-- the parts of a plan for names in order are of no two of one package
pub arrivals_once : (pins : List PinLine) (repos : List Repo) (replaced : List Object) (entry : Name → Option Object) (names : List Name)
    → AreOnce (map part_name (arrivals pins repos replaced (order_by entry (rising_of names))))
arrivals_once pins repos replaced entry names =
    (names_part pins repos replaced (order_by entry (rising_of names))).once (order_once entry (rising_of names) (rising_once (rising_of names) (rising-rising_of names)))

-- an installation's plan
pub install_given : (pins : List PinLine) (repos : List Repo) (db : List Object) (names : List (List ℕ)) (ask : InstallAsk) → AllByRecursion (IsGiven repos) (install_plan pins repos db names ask)
install_given pins repos db names ask = all_given pins repos [] (install_names pins repos db names ask)

pub install_once : (pins : List PinLine) (repos : List Repo) (db : List Object) (names : List (List ℕ)) (ask : InstallAsk) → AreOnce (map part_name (install_plan pins repos db names ask))
unfolding install_names
install_once pins repos db names ask = arrivals_once pins repos [] (view_entry pins repos db)
    (filter (comes pins repos db (names_again names ask))
    (looked_at names ask (view_entry pins repos db) (tree_platforms db) (length (all_named (tree_platforms db) (known_entries repos db)))))
