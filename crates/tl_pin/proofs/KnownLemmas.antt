-- The names that repositories and a tree have, gathered as references.
use Rattle.std.proofs.Common.{◌≡◌, ◌⊎◌, ℕ, ◌+◌, ◌<◌, ◌≤◌, ◌||◌, Bool, true, false, cond, List, [], ◌∷◌, ◌++◌, length, get_or, take, map, refl, sym, ap, ◌∙◌, inl, inr, Bor}
use Rattle.std.specs.Prelude.{IsPermutation}
use Rattle.std.specs.List.{list_any, dedup, dedup_from}
use Rattle.std.proofs.lemmas.Bool.{cases_Bool}
use Rattle.std.proofs.lemmas.List.{take_all, map_more}
use Rattle.std.proofs.lemmas.List.Sorted.{list_any-IsPermutation}
use Rattle.tl_model.specs.Volume.{same_name}
use Rattle.tl_entry.specs.declared.object.Object.{Object}
use Rattle.tl_entry.specs.Rising.{has_key}
use Rattle.tl_db.specs.declared.repo.Repo.{Repo}
use Rattle.tl_pin.specs.Candidates.{is_known}
use Rattle.tl_pin.proofs.ViewLemmas.{has_name}

abbrev Ref : Type 0
Ref = Bor (List ℕ)

-- the names to which references lead
abbrev pub names_at : List Ref → List (List ℕ)
names_at refs = map (λ (r : Ref). r.now) refs

abbrev leads_to : List ℕ → Ref → Bool
leads_to name r = same_name r.now name

has_any : (name : List ℕ) (refs : List Ref) → has_name name (names_at refs) ≡ list_any (leads_to name) refs
has_any name [] = refl
has_any name (r ∷ refs) = ap (λ t. leads_to name r || t) (has_any name refs)

or_again : (a b : Bool) → (a || (a || b)) ≡ (a || b)
or_again true b = refl
or_again false b = refl

module _ (same : Ref → Ref → Bool) (equal : (x y : Ref) → same x y ≡ true → x.now ≡ y.now) where
  any-dedup_from : (name : List ℕ) (k : Ref) (refs : List Ref) → list_any (leads_to name) (dedup_from same k refs) ≡ (leads_to name k || list_any (leads_to name) refs)
  any-dedup_from name k [] = refl
  any-dedup_from name k (x ∷ refs) = by (cases_Bool (same x k)) (any-dedup_from name k refs) (any-dedup_from name x refs)
    where
      by : (same x k ≡ true) ⊎ (same x k ≡ false)
          → list_any (leads_to name) (dedup_from same k refs) ≡ (leads_to name k || list_any (leads_to name) refs)
          → list_any (leads_to name) (dedup_from same x refs) ≡ (leads_to name x || list_any (leads_to name) refs)
          → list_any (leads_to name) (dedup_from same k (x ∷ refs)) ≡ (leads_to name k || (leads_to name x || list_any (leads_to name) refs))
      by (inl is) skipped taken =
          ap (λ t. list_any (leads_to name) (cond t (dedup_from same k refs) (k ∷ dedup_from same x refs))) is ∙ skipped
          ∙ sym (ap (λ (n : List ℕ). leads_to name k || (same_name n name || list_any (leads_to name) refs)) (equal x k is)
          ∙ or_again (leads_to name k) (list_any (leads_to name) refs))
      by (inr other) skipped taken =
          ap (λ t. list_any (leads_to name) (cond t (dedup_from same k refs) (k ∷ dedup_from same x refs))) other ∙ ap (λ t. leads_to name k || t) taken

  any-dedup : (name : List ℕ) (refs : List Ref) → list_any (leads_to name) (dedup same refs) ≡ list_any (leads_to name) refs
  any-dedup name [] = refl
  any-dedup name (r ∷ refs) = any-dedup_from name r refs

  -- sorting and leaving out what comes again changes no name
  pub has-sorted : (refs sorted left : List Ref) → IsPermutation refs sorted → left ≡ dedup same sorted → (name : List ℕ) → has_name name (names_at left) ≡ has_name name (names_at refs)
  has-sorted refs sorted left moved is name =
      has_any name left ∙ ap (list_any (leads_to name)) is ∙ any-dedup name sorted ∙ sym (list_any-IsPermutation (leads_to name) refs sorted moved) ∙ sym (has_any name refs)

-- the names of one reference more
pub next_names : (refs : List Ref) (i : ℕ) (r : Ref) → i < length refs → r ≡ get_or refs i r → names_at (take (i + 1) refs) ≡ names_at (take i refs) ++ r.now ∷ []
next_names refs i r lt at = map_more (λ (x : Ref). x.now) refs i r lt ∙ ap (λ (x : Ref). names_at (take i refs) ++ x.now ∷ []) (sym at)

-- all repositories and the tree
pub all_known : (name : List ℕ) (repos : List Repo) (installed : List Object) (i : ℕ) (refs all : List Ref) → length repos ≤ i
    → has_name name (names_at all) ≡ (has_name name (names_at refs) || has_key (λ (o : Object). o.name) name installed)
    → has_name name (names_at refs) ≡ list_any (λ (r : Repo). has_key (λ (o : Object). o.name) name r.db) (take i repos)
    → has_name name (names_at all) ≡ is_known repos installed name
all_known name repos installed i refs all done added so_far =
    added ∙ ap (λ t. t || has_key (λ (o : Object). o.name) name installed)
    (so_far ∙ ap (λ (rs : List Repo). list_any (λ (r : Repo). has_key (λ (o : Object). o.name) name r.db) rs) (take_all i repos done))
