-- What is read of a repository, as a part of what it reads as.
use Rattle.std.proofs.Common.{◌≡◌, ℕ, List, Option, Some, None, IfSome, Result, Ok, Err, slice_get, refl, sym, ◌∙◌, ap, subst}
use Rattle.std.specs.Option.{unwrap_or, option_and_then}
use Rattle.std.specs.Cmp.Lexicographic.{slice_cmp}
use Rattle.std.specs.FinMap as map
use Rattle.std.specs.Ordering.{nat_cmp}
use Rattle.tl_model.specs.Devices.{ShelfSeen, in_repository}
use Rattle.tl_model.specs.Volume.{Name, Volume, at}
use Rattle.tl_kind.specs.declared.quantity.What.TheVariants.{Database}
use Rattle.tl_entry.specs.declared.object.Object.{Object}
use Rattle.tl_db.specs.declared.repo.Repo.{Repo}
use Rattle.tl_repo.specs.Faults.{RepoFault, Gives, behind, fault_of}
use Rattle.tl_repo.specs.Files.{bytes_within, database_name, digest_name, digest_stated, volume_of}
use Rattle.tl_repo.specs.Loading.{entries_under, repo_of}
use Rattle.tl_repo.specs.declared.error.RepoError.{RepoError}

held_or : (o : Option Volume) (name : Name) → option_and_then (λ (v : Volume). at v name) o ≡ at (unwrap_or o map.empty) name
held_or None name = sym (map.get-empty (slice_cmp nat_cmp) name)
held_or (Some volume) name = refl

-- what a name of a repository holds, by the repository's volume
pub held_in : (volumes : List Volume) (shelf : ShelfSeen) (number : ℕ) (name : Name) → shelf.repositories ≡ volumes → in_repository shelf number name ≡ at (volume_of volumes number) name
held_in volumes shelf number name same =
    ap (λ (vs : List Volume). option_and_then (λ (v : Volume). at v name) (slice_get vs number)) same ∙ held_or (slice_get volumes number) name

-- what was read of the database, by the repository's volume
pub text_given : {X : Type 0} (view : X → List ℕ) (result : Result X RepoError) (shelf : ShelfSeen) (number : ℕ) (name : Name) → name ≡ database_name → Gives view result (bytes_within Database name (in_repository shelf number name))
    → Gives view result (bytes_within Database database_name (at (volume_of shelf.repositories number) database_name))
text_given {X} view result shelf number name named given =
    let P : Result (List ℕ) RepoFault → Type 0 = λ r. Gives view result r in
    subst P (ap (λ (n : Name). bytes_within Database n (in_repository shelf number n)) named ∙ ap (bytes_within Database database_name) (held_in shelf.repositories shelf number database_name refl)) given

-- and what was read of its digest
pub want_given : (result : Result (List ℕ) RepoError) (volumes : List Volume) (shelf : ShelfSeen) (number : ℕ) → shelf.repositories ≡ volumes → Gives (λ (d : List ℕ). d) result (digest_stated (in_repository shelf number digest_name))
    → Gives (λ (d : List ℕ). d) result (digest_stated (at (volume_of volumes number) digest_name))
want_given result volumes shelf number same given =
    let P : Result (List ℕ) RepoFault → Type 0 = λ r. Gives (λ (d : List ℕ). d) result r in subst P (ap digest_stated (held_in volumes shelf number digest_name same)) given

faulted : {Y Z : Type 0} (o : Option RepoFault) (given : Result Y RepoFault) (next : Y → Result Z RepoFault) → IfSome o (λ f. given ≡ Err f) → IfSome o (λ f. behind given next ≡ Err f)
faulted None given next none = none
faulted {Y} (Some fault) given next is = ap (λ (r : Result Y RepoFault). behind r next) is

-- a repository of some entries
abbrev with_entries : ℕ → List ℕ → List Object → Result Repo RepoFault
with_entries number tag entries = Ok (record { number = number; tag = tag; db = entries })

abbrev under_digest : ℕ → List ℕ → List ℕ → List ℕ → Result Repo RepoFault
under_digest number tag text want = behind (entries_under want text) (with_entries number tag)

abbrev with_text : ℕ → List ℕ → Option (List ℕ) → List ℕ → Result Repo RepoFault
with_text number tag digest text = behind (digest_stated digest) (under_digest number tag text)

module _ {X : Type 0} (view : X → List ℕ) (number : ℕ) (tag : List ℕ) (volume : Volume) (error : RepoError) where
  -- the database isn't there, or is too large
  pub load-text : Gives view (Err error) (bytes_within Database database_name (at volume database_name)) → Gives (λ (r : Repo). r) (Err error) (repo_of number tag volume)
  load-text given = faulted (fault_of error) (bytes_within Database database_name (at volume database_name)) (with_text number tag (at volume digest_name)) given

module _ (number : ℕ) (tag : List ℕ) (volume : Volume) (text : List ℕ) (read : bytes_within Database database_name (at volume database_name) ≡ Ok text) where
  -- the repository under its text
  repo-text : repo_of number tag volume ≡ with_text number tag (at volume digest_name) text
  repo-text = ap (λ (r : Result (List ℕ) RepoFault). behind r (with_text number tag (at volume digest_name))) read

  -- no digest is stated
  pub load-want : (error : RepoError) → Gives (λ (d : List ℕ). d) (Err error) (digest_stated (at volume digest_name)) → Gives (λ (r : Repo). r) (Err error) (repo_of number tag volume)
  load-want error given =
      let P : Result Repo RepoFault → Type 0 = λ r. IfSome (fault_of error) (λ f. r ≡ Err f) in
      subst P (sym repo-text) (faulted (fault_of error) (digest_stated (at volume digest_name)) (under_digest number tag text) given)

  module _ (want : List ℕ) (stated : digest_stated (at volume digest_name) ≡ Ok want) where
    -- and under its digest
    repo-want : repo_of number tag volume ≡ under_digest number tag text want
    repo-want = repo-text ∙ ap (λ (r : Result (List ℕ) RepoFault). behind r (under_digest number tag text)) stated

    -- it has another digest, or doesn't read
    pub load-entries : (error : RepoError) → Gives (λ (d : List Object). d) (Err error) (entries_under want text) → Gives (λ (r : Repo). r) (Err error) (repo_of number tag volume)
    load-entries error given =
        let P : Result Repo RepoFault → Type 0 = λ r. IfSome (fault_of error) (λ f. r ≡ Err f) in
        subst P (sym repo-want) (faulted (fault_of error) (entries_under want text) (with_entries number tag) given)

    -- it reads
    pub load-whole : (entries : List Object) → entries_under want text ≡ Ok entries → repo_of number tag volume ≡ with_entries number tag entries
    load-whole entries given = repo-want ∙ ap (λ (r : Result (List Object) RepoFault). behind r (with_entries number tag)) given
