-- The names of the packages that come.
use Rattle.std.proofs.Common.{◌≡◌, ◌⊎◌, ◌↔◌, ℕ, ◌+◌, Bool, true, false, cond, not, ◌||◌, ◌&&◌, List, [], ◌∷◌, ◌++◌, length, Option, Some, None, refl, sym, ap, subst, ◌∙◌, inl, inr}
use Rattle.std.specs.Prelude.{filter, is_some, option_map, slice_get, IsTrue}
use Rattle.std.specs.List.{flat_map, filter_map, cons_option}
use Rattle.std.specs.Str.{bytes_eq}
use Rattle.std.proofs.Math.Path.{fun_ext}
use Rattle.std.proofs.lemmas.Bool.{cases_Bool, true≢false}
use Rattle.std.proofs.lemmas.List.{append_assoc}
use Rattle.std.proofs.lemmas.List.Folds.{list_any-append}
use Rattle.indexmap.specs.IndexSet.{insert_all}
use Rattle.tl_model.specs.Volume.{same_name, same_name-is}
use Rattle.tl_entry.specs.Rising.{has_key}
use Rattle.tl_entry.specs.FilePaths.{rising_of}
use Rattle.tl_entry.proofs.SetLemmas.{has-rising_of, rising-rising_of, rising_same}
use Rattle.tl_entry.specs.declared.object.Object.{Object}
use Rattle.tl_db.specs.Entries.{entry_of}
use Rattle.tl_db.specs.declared.repo.Repo.{Repo}
use Rattle.tl_pin.specs.declared.line.PinLine.{PinLine}
use Rattle.tl_pin.specs.Candidates.{view_entry, candidate_of, entry_under, entry_or, offer, main_pin, has_glob_for}
use Rattle.tl_depend.specs.Names.{named_of}
use Rattle.tl_depend.specs.Order.{IsInstallOrder}
use Rattle.tl_depend.specs.Reach.{IsReached}
use Rattle.tl_depend.specs.Needed.{tree_platforms}
use Rattle.tl_bring.specs.Reached.{reached_by, all_named}
use Rattle.tl_plan.specs.Removal.{is_among}
use Rattle.tl_bring.specs.Coming.{order_by, known_entries, may_come, comes, names_again, parts_in, looked_at, IsEnough, install_names}
use Rattle.tl_bring.specs.declared.coming.InstallAsk.{InstallAsk}
use Rattle.tl_plan.proofs.SetLaws.{among_either, among_all, all_onto}
use Rattle.tl_plan.proofs.OrderLaws.{order_is}
use Rattle.tl_bring.proofs.ReachLaws.{reached_is, in_all}

abbrev Texts : Type 0
Texts = List (List ℕ)

among_left : (m : List ℕ) (xs ys : Texts) → is_among m xs ≡ true → is_among m (xs ++ ys) ≡ true
among_left m xs ys is = list_any-append (bytes_eq m) xs ys ∙ ap (λ t. t || is_among m ys) is

or_true : (a : Bool) → (a || true) ≡ true
or_true true = refl
or_true false = refl

among_right : (m : List ℕ) (xs ys : Texts) → is_among m ys ≡ true → is_among m (xs ++ ys) ≡ true
among_right m xs ys is = list_any-append (bytes_eq m) xs ys ∙ ap (λ t. is_among m xs || t) is ∙ or_true (is_among m xs)

named-append : (platforms : Texts) (xs ys : List Object) → all_named platforms (xs ++ ys) ≡ all_named platforms xs ++ all_named platforms ys
named-append platforms [] ys = refl
named-append platforms (x ∷ xs) ys = ap (λ (l : Texts). named_of platforms (Some x) ++ l) (named-append platforms xs ys)
    ∙ sym (append_assoc (named_of platforms (Some x)) (all_named platforms xs) (all_named platforms ys))

abbrev from_repos : Texts → List Repo → Texts
from_repos platforms repos = all_named platforms (flat_map (λ (repo : Repo). repo.db) repos)

-- the entry of a candidate, if there is one
abbrev entry_in : Option (ℕ × Object) → Option Object
entry_in None = None
entry_in (Some candidate) = Some candidate.1

entry_in-map : (before : ℕ) (o : Option Object) → entry_in (option_map (λ (e : Object). (before, e)) o) ≡ o
entry_in-map before None = refl
entry_in-map before (Some e) = refl

module _ (platforms : Texts) (repos : List Repo) (name m : List ℕ) where
  under_all : (before : ℕ) (rs : List Repo) (tag : List ℕ) → is_among m (named_of platforms (entry_in (entry_under before rs tag name))) ≡ true → is_among m (from_repos platforms rs) ≡ true
  under_all before [] tag is = absurd (true≢false (sym is))
  under_all before (repo ∷ rs) tag is = elim (cases_Bool (bytes_eq repo.tag tag)) [
    | inl here ↦ subst (λ (l : Texts). is_among m l ≡ true) (sym (named-append platforms repo.db (flat_map (λ (r : Repo). r.db) rs)))
        (among_left m (all_named platforms repo.db) (from_repos platforms rs) (in_all platforms repo.db name m
        (ap (λ (o : Option Object). is_among m (named_of platforms o)) (sym (entry_in-map before (entry_of name repo.db)))
        ∙ ap (λ t. is_among m (named_of platforms (entry_in (cond t (option_map (λ (e : Object). (before, e)) (entry_of name repo.db)) (entry_under (before + 1) rs tag name))))) (sym here) ∙ is)))
    | inr other ↦ subst (λ (l : Texts). is_among m l ≡ true) (sym (named-append platforms repo.db (flat_map (λ (r : Repo). r.db) rs)))
        (among_right m (all_named platforms repo.db) (from_repos platforms rs) (under_all (before + 1) rs tag
        (ap (λ t. is_among m (named_of platforms (entry_in (cond t (option_map (λ (e : Object). (before, e)) (entry_of name repo.db)) (entry_under (before + 1) rs tag name))))) (sym other) ∙ is)))
  ]

  offer_all : (pin : PinLine) → is_among m (named_of platforms (entry_in (offer repos name pin))) ≡ true → is_among m (from_repos platforms repos) ≡ true
  offer_all pin is = by (has_glob_for name pin) is
    where
      by : (t : Bool) → is_among m (named_of platforms (entry_in (cond t (entry_under 0 repos pin.tag name) None))) ≡ true → is_among m (from_repos platforms repos) ≡ true
      by true is = under_all 0 repos pin.tag is
      by false is = absurd (true≢false (sym is))

  offers_all : (pins : List PinLine) → is_among m (named_of platforms (entry_in (slice_get (filter_map (offer repos name) pins) 0))) ≡ true → is_among m (from_repos platforms repos) ≡ true
  offers_all [] is = absurd (true≢false (sym is))
  offers_all (pin ∷ pins) is = by (offer repos name pin) (offer_all pin) (offers_all pins) is
    where
      by : (o : Option (ℕ × Object)) → (is_among m (named_of platforms (entry_in o)) ≡ true → is_among m (from_repos platforms repos) ≡ true)
          → (is_among m (named_of platforms (entry_in (slice_get (filter_map (offer repos name) pins) 0))) ≡ true → is_among m (from_repos platforms repos) ≡ true)
          → is_among m (named_of platforms (entry_in (slice_get (cons_option o (filter_map (offer repos name) pins)) 0))) ≡ true → is_among m (from_repos platforms repos) ≡ true
      by None here behind is = behind is
      by (Some c) here behind is = here is

  -- what a name's entry in the view stands for is one of all names
  view_all : (pins : List PinLine) (db : List Object) → is_among m (named_of platforms (view_entry pins repos db name)) ≡ true → is_among m (all_named platforms (known_entries repos db)) ≡ true
  view_all pins db is = subst (λ (l : Texts). is_among m l ≡ true) (sym (named-append platforms (flat_map (λ (r : Repo). r.db) repos) db)) (by (candidate_of pins repos name) refl is)
    where
      by : (o : Option (ℕ × Object)) → candidate_of pins repos name ≡ o → is_among m (named_of platforms (entry_or o (entry_of name db))) ≡ true → is_among m (from_repos platforms repos ++ all_named platforms db) ≡ true
      by None found is = among_right m (from_repos platforms repos) (all_named platforms db) (in_all platforms db name m is)
      by (Some c) found is = among_left m (from_repos platforms repos) (all_named platforms db)
          (offers_all (pins ++ main_pin ∷ []) (ap (λ (o : Option (ℕ × Object)). is_among m (named_of platforms (entry_in o))) found ∙ is))

-- a view has no more names than all
pub enough : (pins : List PinLine) (repos : List Repo) (db view : List Object) (platforms : Texts) → ((name : List ℕ) → entry_of name view ≡ view_entry pins repos db name)
    → IsEnough view platforms (length (all_named platforms (known_entries repos db)))
enough pins repos db view platforms at = record {
  all = all_named platforms (known_entries repos db);
  is = refl;
  within = λ name other is. view_all platforms repos name other pins db (ap (λ (o : Option Object). is_among other (named_of platforms o)) (sym (at name)) ∙ is);
}

-- what is reached in a view
pub reached_at : (view : List Object) (platforms : Texts) (count : ℕ) → IsEnough view platforms count → (roots : Texts) (name : List ℕ) (has : Bool) → IsTrue has ↔ IsReached view platforms roots name
    → has ≡ is_among name (reached_by count (λ n. named_of platforms (entry_of n view)) roots)
reached_at view platforms count enough roots name has means =
    reached_is view platforms enough.all enough.within roots name has means
    ∙ ap (λ n. is_among name (reached_by n (λ m. named_of platforms (entry_of m view)) roots)) (sym enough.is)

-- names in order that pass a test, of lists with the same names
pub passing_alike : (p : List ℕ → Bool) (xs ys : Texts) → ((name : List ℕ) → is_among name xs ≡ is_among name ys) → rising_of (filter p xs) ≡ rising_of (filter p ys)
passing_alike p xs ys same =
    rising_same (rising_of (filter p xs)) (rising_of (filter p ys)) (rising-rising_of (filter p xs)) (rising-rising_of (filter p ys))
    (λ w. has-rising_of w (filter p xs) ∙ passing w xs ∙ ap (λ t. p w && t) (sym (among_either w xs) ∙ same w ∙ among_either w ys) ∙ sym (passing w ys) ∙ sym (has-rising_of w (filter p ys)))
  where
    and_false : (t : Bool) → (t && false) ≡ false
    and_false true = refl
    and_false false = refl

    step : (w x : List ℕ) (xs : Texts) → (p x ≡ true) ⊎ (p x ≡ false) → (same_name x w ≡ true) ⊎ (same_name x w ≡ false) → has_key (λ (n : List ℕ). n) w (filter p xs) ≡ (p w && has_key (λ (n : List ℕ). n) w xs)
        → has_key (λ (n : List ℕ). n) w (filter p (x ∷ xs)) ≡ (p w && has_key (λ (n : List ℕ). n) w (x ∷ xs))
    step w x xs (inl is) (inl same) rest =
        let here : p w ≡ true = ap p (sym (same_name-is x w same)) ∙ is in
        ap (λ t. has_key (λ (n : List ℕ). n) w (cond t (x ∷ filter p xs) (filter p xs))) is ∙ ap (λ t. t || has_key (λ (n : List ℕ). n) w (filter p xs)) same
        ∙ sym (ap (λ t. t && has_key (λ (n : List ℕ). n) w (x ∷ xs)) here ∙ ap (λ t. t || has_key (λ (n : List ℕ). n) w xs) same)
    step w x xs (inl is) (inr apart) rest =
        ap (λ t. has_key (λ (n : List ℕ). n) w (cond t (x ∷ filter p xs) (filter p xs))) is ∙ ap (λ t. t || has_key (λ (n : List ℕ). n) w (filter p xs)) apart
        ∙ rest ∙ sym (ap (λ t. p w && (t || has_key (λ (n : List ℕ). n) w xs)) apart)
    step w x xs (inr off) (inl same) rest =
        let here : p w ≡ false = ap p (sym (same_name-is x w same)) ∙ off in
        ap (λ t. has_key (λ (n : List ℕ). n) w (cond t (x ∷ filter p xs) (filter p xs))) off ∙ rest
        ∙ ap (λ t. t && has_key (λ (n : List ℕ). n) w xs) here ∙ sym (ap (λ t. t && has_key (λ (n : List ℕ). n) w (x ∷ xs)) here)
    step w x xs (inr off) (inr apart) rest =
        ap (λ t. has_key (λ (n : List ℕ). n) w (cond t (x ∷ filter p xs) (filter p xs))) off
        ∙ rest ∙ sym (ap (λ t. p w && (t || has_key (λ (n : List ℕ). n) w xs)) apart)

    passing : (w : List ℕ) (xs : Texts) → has_key (λ (n : List ℕ). n) w (filter p xs) ≡ (p w && has_key (λ (n : List ℕ). n) w xs)
    passing w [] = sym (and_false (p w))
    passing w (x ∷ xs) = step w x xs (cases_Bool (p x)) (cases_Bool (same_name x w)) (passing w xs)

comes_alike : (pins : List PinLine) (repos : List Repo) (db : List Object) (again names : Texts) → ((name : List ℕ) → is_among name again ≡ is_among name names) → comes pins repos db again ≡ comes pins repos db names
comes_alike pins repos db again names same = fun_ext (λ name. ap (λ t. may_come pins repos db name || (t && is_some (entry_of name db))) (same name))

-- the names that come, by what a walk over a view gathers
pub names_are : (pins : List PinLine) (repos : List Repo) (db view : List Object) (names : Texts) (ask : InstallAsk) (looked again ordered : Texts)
    → ((name : List ℕ) → entry_of name view ≡ view_entry pins repos db name)
    → ((count : ℕ) → IsEnough view (tree_platforms db) count → (name : List ℕ) → is_among name looked ≡ is_among name (looked_at names ask (λ n. entry_of n view) (tree_platforms db) count))
    → again ≡ insert_all bytes_eq [] (names_again names ask)
    → IsInstallOrder view (insert_all bytes_eq [] (filter (comes pins repos db again) looked)) ordered → ordered ≡ install_names pins repos db names ask
unfolding install_names
names_are pins repos db view names ask looked again ordered at looks same is =
    let platforms : Texts = tree_platforms db in
    let count : ℕ = length (all_named platforms (known_entries repos db)) in
    let entries : (λ n. entry_of n view) ≡ view_entry pins repos db = fun_ext at in
    let test : comes pins repos db again ≡ comes pins repos db (names_again names ask) = comes_alike pins repos db again (names_again names ask) (λ name. ap (is_among name) same ∙ among_all name [] (names_again names ask)) in
    order_is view (filter (comes pins repos db again) looked) ordered is
    ∙ ap (λ (p : List ℕ → Bool). order_by (λ n. entry_of n view) (rising_of (filter p looked))) test
    ∙ ap (order_by (λ n. entry_of n view)) (passing_alike (comes pins repos db (names_again names ask)) looked (looked_at names ask (λ n. entry_of n view) platforms count)
    (looks count (enough pins repos db view platforms at)))
    ∙ ap (λ (entry : List ℕ → Option Object). order_by entry (rising_of (filter (comes pins repos db (names_again names ask)) (looked_at names ask entry platforms count)))) entries

-- names that are gathered after others
pub gathered_onto : (keys some more : Texts) → insert_all bytes_eq keys (some ++ more) ≡ insert_all bytes_eq (insert_all bytes_eq keys some) more
gathered_onto keys some more = all_onto keys some more

-- the names of a walk are those that are looked at, whichever number of depends is enough
abbrev pub Looks : Texts → InstallAsk → List Object → Texts → Texts → Type 0
Looks names ask view platforms keys =
    (count : ℕ) → IsEnough view platforms count → (name : List ℕ) → is_among name keys ≡ is_among name (looked_at names ask (λ n. entry_of n view) platforms count)

module _ (names : Texts) (ask : InstallAsk) (view : List Object) (platforms : Texts) where
  abbrev parts : Texts
  parts = parts_in (λ n. entry_of n view) platforms names

  abbrev reached : ℕ → Texts
  reached count = reached_by count (λ n. named_of platforms (entry_of n view)) names

  abbrev chosen : Bool → Bool → ℕ → Texts
  chosen with_parts with_depends count = cond (not with_parts) names (cond (not with_depends) (names ++ parts) (reached count))

  -- without parts
  pub alone_looked : (keys : Texts) → ask.parts ≡ false → keys ≡ insert_all bytes_eq [] names → Looks names ask view platforms keys
  alone_looked keys off is count enough name =
      ap (is_among name) is ∙ among_all name [] names ∙ sym (ap (λ t. is_among name (chosen t ask.depends count)) off)

  -- without depends
  pub parts_looked : (keys : Texts) → ask.parts ≡ true → ask.depends ≡ false → keys ≡ insert_all bytes_eq (insert_all bytes_eq [] names) parts → Looks names ask view platforms keys
  parts_looked keys on off is count enough name =
      ap (is_among name) is ∙ among_all name (insert_all bytes_eq [] names) parts ∙ ap (λ t. t || is_among name parts) (among_all name [] names)
      ∙ sym (list_any-append (bytes_eq name) names parts)
      ∙ sym (ap (λ t. is_among name (chosen t ask.depends count)) on ∙ ap (λ t. is_among name (chosen true t count)) off)

  -- with both
  pub reach_looked : (keys : Texts) → ask.parts ≡ true → ask.depends ≡ true → ((name : List ℕ) → IsTrue (is_among name keys) ↔ IsReached view platforms names name) → Looks names ask view platforms keys
  reach_looked keys on all means count enough name =
      reached_at view platforms count enough names name (is_among name keys) (means name)
      ∙ sym (ap (λ t. is_among name (chosen t ask.depends count)) on ∙ ap (λ t. is_among name (chosen true t count)) all)
