-- The candidate of a package, as it is said.
use Rattle.std.proofs.Common.{◌≡◌, ◌+◌, ◌<◌, ◌≤◌, ℕ, Bool, true, false, cond, List, [], ◌∷◌, ◌++◌, length, get_or, drop, Option, Some, None, slice_get, refl, sym, ◌∙◌, ap, arith, append_assoc}
use Rattle.std.specs.Prelude.{option_map, unwrap_or}
use Rattle.std.specs.List.{filter_map, cons_option}
use Rattle.std.specs.Str.{bytes_eq}
use Rattle.std.proofs.lemmas.List.{append-nil, drop_more, drop_all}
use Rattle.std.proofs.lemmas.Option.{slice_get-get_or}
use Rattle.tl_entry.specs.declared.object.Object.{Object}
use Rattle.tl_db.specs.declared.repo.Repo.{Repo}
use Rattle.tl_db.specs.Entries.{entry_of}
use Rattle.tl_pin.specs.declared.line.PinLine.{PinLine}
use Rattle.tl_pin.specs.Candidates.{entry_under, has_glob_for, offer, main_pin, candidate_of}
use Rattle.tl_report.specs.Info.{repo_tag, candidate_text, revision_text}
use Rattle.tl_report.specs.Offers.{offer_line, is_chosen, offers_from}

abbrev Choice : Type 0
Choice = Option (ℕ × Object)

-- what a call says of a candidate
abbrev pub place_and_revision : ℕ × Object → ℕ × ℕ
place_and_revision c = (c.0, c.1.revision)

pair_place : (before : ℕ) (o : Option Object) (c : ℕ × Object) → option_map (λ (e : Object). (before, e)) o ≡ Some c → c.0 ≡ before
pair_place before None c is = absurd (cc)
pair_place before (Some x) c is = let one : (before, x) ≡ c = cc in sym (ap (λ (d : ℕ × Object). d.0) one)

under_place : (before : ℕ) (repos : List Repo) (tag name : List ℕ) (c : ℕ × Object) → entry_under before repos tag name ≡ Some c → c.0 < before + length repos
under_place before [] tag name c is = absurd (cc)
under_place before (repo ∷ repos) tag name c is = by (bytes_eq repo.tag tag) is (under_place (before + 1) repos tag name c)
  where
    by : (t : Bool) → cond t (option_map (λ (e : Object). (before, e)) (entry_of name repo.db)) (entry_under (before + 1) repos tag name) ≡ Some c
        → (entry_under (before + 1) repos tag name ≡ Some c → c.0 < (before + 1) + length repos) → c.0 < before + length (repo ∷ repos)
    by true is deeper = let same : c.0 ≡ before = pair_place before (entry_of name repo.db) c is in omega (arith, same)
    by false is deeper = let less : c.0 < (before + 1) + length repos = deeper is in omega (arith, less)

offer_place : (pins : List PinLine) (repos : List Repo) (name : List ℕ) (c : ℕ × Object) → slice_get (filter_map (offer repos name) pins) 0 ≡ Some c → c.0 < length repos
offer_place [] repos name c is = absurd (cc)
offer_place (pin ∷ pins) repos name c is = by (offer repos name pin) refl is (offer_place pins repos name c)
  where
    own : (t : Bool) (d : ℕ × Object) → cond t (entry_under 0 repos pin.tag name) None ≡ Some d → d.0 < length repos
    own true d is = let less : d.0 < 0 + length repos = under_place 0 repos pin.tag name d is in omega (arith, less)
    own false d is = absurd (cc)

    by : (o : Choice) → offer repos name pin ≡ o → slice_get (cons_option o (filter_map (offer repos name) pins)) 0 ≡ Some c
        → (slice_get (filter_map (offer repos name) pins) 0 ≡ Some c → c.0 < length repos) → c.0 < length repos
    by None e is deeper = deeper is
    by (Some d) e is deeper = let one : d ≡ c = cc in let less : d.0 < length repos = own (has_glob_for name pin) d e in let same : d.0 ≡ c.0 = ap (λ (x : ℕ × Object). x.0) one in omega (arith, less, same)

first_is : (place revision : ℕ) (c : ℕ × Object) → Some (place, revision) ≡ Some (place_and_revision c) → place ≡ c.0
first_is place revision c is = let one : (place, revision) ≡ (c.0, c.1.revision) = cc in ap (λ (x : ℕ × ℕ). x.0) one

-- the place of a candidate that was found is one of the repositories
pub place-within : (pins : List PinLine) (repos : List Repo) (name : List ℕ) (place revision : ℕ) → Some (place, revision) ≡ option_map place_and_revision (candidate_of pins repos name) → place < length repos
place-within pins repos name place revision is = by (candidate_of pins repos name) refl is
  where
    by : (found : Choice) → candidate_of pins repos name ≡ found → Some (place, revision) ≡ option_map place_and_revision found → place < length repos
    by None e is = absurd (cc)
    by (Some c) e is =
        let same : place ≡ c.0 = first_is place revision c is in
        let less : c.0 < length repos = offer_place (pins ++ main_pin ∷ []) repos name c e in
        omega (arith, same, less)

-- what is said of a candidate that was found
pub candidate-said : (repos : List Repo) (found : Choice) (place revision : ℕ) (repo : Repo) → Some (place, revision) ≡ option_map place_and_revision found → place < length repos → repo ≡ get_or repos place repo
    → repo.tag ++ 32 ∷ revision_text revision ≡ candidate_text repos found
candidate-said repos None place revision repo is lt at = absurd (cc)
candidate-said repos (Some c) place revision repo is lt at =
    let one : (place, revision) ≡ (c.0, c.1.revision) = cc in
    let tag : repo_tag repos place ≡ repo.tag =
    ap (λ (o : Option Repo). unwrap_or (option_map (λ (r : Repo). r.tag) o) []) (slice_get-get_or repos place repo lt) ∙ ap (λ (r : Repo). r.tag) (sym at) in
    ap (λ (t : List ℕ). t ++ 32 ∷ revision_text revision) (sym tag) ∙ ap (λ (x : ℕ × ℕ). repo_tag repos x.0 ++ 32 ∷ revision_text x.1) one

-- and of none
pub candidate-none : (repos : List Repo) (found : Choice) → None ≡ option_map place_and_revision found → candidate_text repos None ≡ candidate_text repos found
candidate-none repos None is = refl
candidate-none repos (Some c) is = absurd (cc)

-- whether a candidate is at a place, by what a call says of it
pub chosen-place : (found : Choice) (place : ℕ) → is_chosen (option_map place_and_revision found) place ≡ is_chosen found place
chosen-place None place = refl
chosen-place (Some c) place = refl

next_repo : (repos : List Repo) (i : ℕ) (repo : Repo) → i < length repos → repo ≡ get_or repos i repo → drop i repos ≡ repo ∷ drop (i + 1) repos
next_repo repos i repo lt at = drop_more repos i repo lt ∙ ap (λ (r : Repo). r ∷ drop (i + 1) repos) (sym at)

module _ (chosen : Choice) (name : List ℕ) (repos : List Repo) (i : ℕ) (repo : Repo) (lt : i < length repos) (at : repo ≡ get_or repos i repo) where
  here : offers_from chosen i (drop i repos) name
      ≡ cons_option (option_map (λ (entry : Object). offer_line repo.tag entry.revision (is_chosen chosen i)) (entry_of name repo.db)) (offers_from chosen (i + 1) (drop (i + 1) repos) name)
  here = ap (λ (rs : List Repo). offers_from chosen i rs name) (next_repo repos i repo lt at)

  -- the line of a repository that has the package
  pub offers-more : (entry : Object) (lines next all : List (List ℕ)) → entry_of name repo.db ≡ Some entry → next ≡ lines ++ offer_line repo.tag entry.revision (is_chosen chosen i) ∷ []
      → lines ++ offers_from chosen i (drop i repos) name ≡ all → next ++ offers_from chosen (i + 1) (drop (i + 1) repos) name ≡ all
  offers-more entry lines next all is added so_far =
      ap (λ (ls : List (List ℕ)). ls ++ offers_from chosen (i + 1) (drop (i + 1) repos) name) added
      ∙ append_assoc lines (offer_line repo.tag entry.revision (is_chosen chosen i) ∷ []) (offers_from chosen (i + 1) (drop (i + 1) repos) name)
      ∙ ap (λ (ls : List (List ℕ)). lines ++ ls)
      (sym (here ∙ ap (λ (o : Option Object). cons_option (option_map (λ (e : Object). offer_line repo.tag e.revision (is_chosen chosen i)) o) (offers_from chosen (i + 1) (drop (i + 1) repos) name)) is))
      ∙ so_far

  -- a repository without it
  pub offers-none : (lines all : List (List ℕ)) → entry_of name repo.db ≡ None → lines ++ offers_from chosen i (drop i repos) name ≡ all → lines ++ offers_from chosen (i + 1) (drop (i + 1) repos) name ≡ all
  offers-none lines all is so_far =
      ap (λ (ls : List (List ℕ)). lines ++ ls)
      (sym (here ∙ ap (λ (o : Option Object). cons_option (option_map (λ (e : Object). offer_line repo.tag e.revision (is_chosen chosen i)) o) (offers_from chosen (i + 1) (drop (i + 1) repos) name)) is))
      ∙ so_far

-- all repositories were looked at
pub offers-done : (chosen : Choice) (name : List ℕ) (repos : List Repo) (i : ℕ) (lines all : List (List ℕ)) → length repos ≤ i → lines ++ offers_from chosen i (drop i repos) name ≡ all → lines ≡ all
offers-done chosen name repos i lines all done so_far = sym (append-nil lines ∙ refl) ∙ sym (ap (λ (rs : List Repo). lines ++ offers_from chosen i rs name) (drop_all i repos done)) ∙ so_far
