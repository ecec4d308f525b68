-- The first offer for a name, looked for among pins and repositories.
use Rattle.std.proofs.Common.{◌≡◌, ℕ, ◌+◌, ◌<◌, ◌≤◌, true, false, cond, List, [], ◌∷◌, ◌++◌, length, get_or, drop, Option, Some, None, refl, sym, ap, ◌∙◌}
use Rattle.std.specs.Prelude.{option_map, slice_get, codes}
use Rattle.std.specs.List.{list_any, filter_map, cons_option}
use Rattle.std.specs.Str.{bytes_eq}
use Rattle.std.proofs.lemmas.Bool.{or_left, or_right}
use Rattle.std.proofs.lemmas.List.{drop_more, drop_all}
use Rattle.tl_glob.specs.Matches.{is_match, ends}
use Rattle.tl_entry.specs.declared.object.Object.{Object}
use Rattle.tl_db.specs.declared.repo.Repo.{Repo}
use Rattle.tl_db.specs.Entries.{entry_of}
use Rattle.tl_pin.specs.declared.line.PinLine.{PinLine}
use Rattle.tl_pin.specs.Candidates.{entry_under, has_glob_for, offer, main_pin, candidate_of}

abbrev Offer : Type 0
Offer = Option (ℕ × Object)

next_repo : (repos : List Repo) (i : ℕ) (repo : Repo) → i < length repos → repo ≡ get_or repos i repo → drop i repos ≡ repo ∷ drop (i + 1) repos
next_repo repos i repo lt at = drop_more repos i repo lt ∙ ap (λ (r : Repo). r ∷ drop (i + 1) repos) (sym at)

-- a repository with another tag
pub under_more : (repos : List Repo) (tag name : List ℕ) (i : ℕ) (repo : Repo) (whole : Offer) → i < length repos → repo ≡ get_or repos i repo → bytes_eq repo.tag tag ≡ false
    → entry_under i (drop i repos) tag name ≡ whole → entry_under (i + 1) (drop (i + 1) repos) tag name ≡ whole
under_more repos tag name i repo whole lt at other so_far =
    sym (ap (λ t. cond t (option_map (λ (e : Object). (i, e)) (entry_of name repo.db)) (entry_under (i + 1) (drop (i + 1) repos) tag name)) other)
    ∙ sym (ap (λ (rs : List Repo). entry_under i rs tag name) (next_repo repos i repo lt at)) ∙ so_far

-- the repository with the tag
pub under_at : (repos : List Repo) (tag name : List ℕ) (i : ℕ) (repo : Repo) (whole : Offer) (found : Option Object) → i < length repos → repo ≡ get_or repos i repo → bytes_eq repo.tag tag ≡ true
    → found ≡ entry_of name repo.db → entry_under i (drop i repos) tag name ≡ whole → whole ≡ option_map (λ (e : Object). (i, e)) found
under_at repos tag name i repo whole found lt at same is so_far =
    sym so_far ∙ ap (λ (rs : List Repo). entry_under i rs tag name) (next_repo repos i repo lt at)
    ∙ ap (λ t. cond t (option_map (λ (e : Object). (i, e)) (entry_of name repo.db)) (entry_under (i + 1) (drop (i + 1) repos) tag name)) same
    ∙ ap (option_map (λ (e : Object). (i, e))) (sym is)

-- no repository has the tag
pub under_end : (repos : List Repo) (tag name : List ℕ) (i : ℕ) (whole : Offer) → length repos ≤ i → entry_under i (drop i repos) tag name ≡ whole → whole ≡ None
under_end repos tag name i whole all so_far = sym so_far ∙ ap (λ (rs : List Repo). entry_under i rs tag name) (drop_all i repos all)

abbrev first_of : List Repo → List ℕ → List PinLine → Offer
first_of repos name pins = slice_get (filter_map (offer repos name) pins) 0

next_pin : (pins : List PinLine) (i : ℕ) (pin : PinLine) → i < length pins → pin ≡ get_or pins i pin → drop i pins ≡ pin ∷ drop (i + 1) pins
next_pin pins i pin lt at = drop_more pins i pin lt ∙ ap (λ (p : PinLine). p ∷ drop (i + 1) pins) (sym at)

-- a pin without an offer
pub offer_more : (pins : List PinLine) (repos : List Repo) (name : List ℕ) (i : ℕ) (pin : PinLine) (whole : Offer) → i < length pins → pin ≡ get_or pins i pin → offer repos name pin ≡ None
    → candidate_of (drop i pins) repos name ≡ whole → candidate_of (drop (i + 1) pins) repos name ≡ whole
offer_more pins repos name i pin whole lt at none so_far =
    sym (ap (λ (ps : List PinLine). candidate_of ps repos name) (next_pin pins i pin lt at)
    ∙ ap (λ (o : Offer). slice_get (cons_option o (filter_map (offer repos name) (drop (i + 1) pins ++ main_pin ∷ []))) 0) none) ∙ so_far

-- a pin with an offer
pub offer_at : (pins : List PinLine) (repos : List Repo) (name : List ℕ) (i : ℕ) (pin : PinLine) (whole : Offer) (c : ℕ × Object) → i < length pins → pin ≡ get_or pins i pin → offer repos name pin ≡ Some c
    → candidate_of (drop i pins) repos name ≡ whole → whole ≡ Some c
offer_at pins repos name i pin whole c lt at is so_far =
    sym so_far ∙ ap (λ (ps : List PinLine). candidate_of ps repos name) (next_pin pins i pin lt at)
    ∙ ap (λ (o : Offer). slice_get (cons_option o (filter_map (offer repos name) (drop (i + 1) pins ++ main_pin ∷ []))) 0) is

-- what a pin offers whose globs were looked at
pub offer_no_glob : (repos : List Repo) (name : List ℕ) (pin : PinLine) → has_glob_for name pin ≡ false → offer repos name pin ≡ None
offer_no_glob repos name pin none = ap (λ t. cond t (entry_under 0 repos pin.tag name) None) none

pub offer_glob : (repos : List Repo) (name : List ℕ) (pin : PinLine) (found : Offer) → has_glob_for name pin ≡ true → entry_under 0 repos pin.tag name ≡ found → offer repos name pin ≡ found
offer_glob repos name pin found is under = ap (λ t. cond t (entry_under 0 repos pin.tag name) None) is ∙ under

star_all : (name : List ℕ) → list_any (is_match []) (ends name) ≡ true
star_all [] = refl
star_all (b ∷ name) = or_right (is_match [] (b ∷ name)) _ (star_all name)

alone : (o : Offer) → slice_get (cons_option o []) 0 ≡ o
alone None = refl
alone (Some c) = refl

-- the pin behind all others
pub offer_end : (pins : List PinLine) (repos : List Repo) (name : List ℕ) (i : ℕ) (whole : Offer) → length pins ≤ i → candidate_of (drop i pins) repos name ≡ whole
    → entry_under 0 repos (codes "main") name ≡ whole
offer_end pins repos name i whole all so_far =
    sym (ap (λ (ps : List PinLine). candidate_of ps repos name) (drop_all i pins all) ∙ alone (offer repos name main_pin)
    ∙ offer_glob repos name main_pin _ (or_left (is_match (codes "*") name) false (star_all name)) refl) ∙ so_far
