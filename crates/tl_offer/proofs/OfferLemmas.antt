-- Repositories that are loaded one after the other, as what they read as together.
use Rattle.std.proofs.Common.{◌≡◌, ◌≤◌, ◌<◌, ◌+◌, ◌&&◌, ℕ, Bool, true, false, List, [], ◌∷◌, ◌++◌, length, get_or, drop, Option, Some, None, IfSome, Result, Ok, Err, IsTrue, slice_get, refl, sym, ◌∙◌, ap, subst, append_assoc, length-append, arith}
use Rattle.std.specs.Prelude.{option_map, unwrap_or}
use Rattle.std.proofs.lemmas.List.{append-nil, drop_more, drop_all}
use Rattle.std.proofs.lemmas.Option.{slice_get-get_or}
use Rattle.tl_model.specs.Causes.{Rose}
use Rattle.tl_model.specs.Devices.{ShelfSeen, SameShelf}
use Rattle.tl_model.specs.Seen.{Seen, Told}
use Rattle.tl_model.specs.Volume.{Volume}
use Rattle.tl_journal_text.specs.Stand.{stand}
use Rattle.tl_db.specs.declared.repo.Repo.{Repo}
use Rattle.tl_pin.specs.declared.line.PinLine.{PinLine}
use Rattle.tl_repo.specs.Faults.{RepoFault, Gives, fault_of}
use Rattle.tl_repo.specs.Faults as faults
use Rattle.tl_repo.specs.Files.{volume_of}
use Rattle.tl_repo.specs.Loading.{repo_of}
use Rattle.tl_repo.specs.declared.error.RepoError.{RepoError}
use Rattle.tl_repo.specs.declared.error.RepoError.TheVariants.{ShelfFault}
use Rattle.tl_action.specs.declared.command.Repository.{Repository}
use Rattle.tl_tree.specs.Planted.{Planted}
use Rattle.tl_refusal.specs.declared.refusal.Refusal.{Refusal}
use Rattle.tl_command.specs.declared.ending.Ending.{Ending}
use Rattle.tl_command.specs.Endings.{Faults, IsOfWords, no_devices}
use Rattle.tl_command.specs.Performs.{Performs}
use Rattle.tl_command.specs.Runs.{Run, AreLabelled, refused}
use Rattle.tl_command.proofs.Joins.{performs_quiet, performs_same, performs_alone, performs_fewer, advances_fewer}
use Rattle.tl_offer.specs.Offered.{repo_refusal, joined_repos, repos_from, repos_of, offering, counted_faults, LoadsOffer, tag_at, IsUnloaded, EndsUnloaded}
use Rattle.tl_offer.specs.Pinned.{over_read, over_pins, pins_in, LoadsPins}
use Rattle.tl_offer.proofs.PinLemmas.{labelled-pinned}

-- some repositories in front of others that were read
abbrev pub in_front : List Repo → Result (List Repo) Refusal → Result (List Repo) Refusal
in_front repos (Ok others) = Ok (repos ++ others)
in_front repos (Err refusal) = Err refusal

-- what was loaded of a shelf so far: the first repositories, of which so many stand before the others; no call has changed anything
pub record HasLoaded (tells : Bool) (repositories : List Repository) (old new : ShelfSeen) (count : ℕ) (repos : List Repo) : Type 0 where
  pub same : SameShelf old new
  pub later : old.faults ≤ new.faults
  pub all : length repos ≡ count
  pub read : Told tells (repos_of repositories old.repositories ≡ in_front repos (repos_from count (drop count repositories) old.repositories))

in_front_none : (read : Result (List Repo) Refusal) → read ≡ in_front [] read
in_front_none (Ok repos) = refl
in_front_none (Err refusal) = refl

-- before the first one
pub loaded_start : (tells : Bool) (repositories : List Repository) (shelf : ShelfSeen) → HasLoaded tells repositories shelf shelf 0 []
loaded_start tells repositories shelf = record {
  same = record { repositories = refl; absences = omega arith };
  later = omega arith;
  all = refl;
  read = λ _. in_front_none (repos_of repositories shelf.repositories);
}

next_repository : (repositories : List Repository) (i : ℕ) (repository : Repository) → i < length repositories → repository ≡ get_or repositories i repository
    → drop i repositories ≡ repository ∷ drop (i + 1) repositories
next_repository repositories i repository lt at = drop_more repositories i repository lt ∙ ap (λ (r : Repository). r ∷ drop (i + 1) repositories) (sym at)

in_front_more : (repos : List Repo) (repo : Repo) (tag : List ℕ) (others : Result (List Repo) Refusal) → in_front repos (joined_repos tag (Ok repo) others) ≡ in_front (repos ++ repo ∷ []) others
in_front_more repos repo tag (Ok others) = ap (λ (rs : List Repo). Ok rs) (sym (append_assoc repos (repo ∷ []) others))
in_front_more repos repo tag (Err refusal) = refl

pub join_shelf : (old mid new : ShelfSeen) → SameShelf old mid → SameShelf mid new → SameShelf old new
join_shelf old mid new far near = record {
  repositories = near.repositories ∙ far.repositories;
  absences = omega (arith, far.absences, near.absences);
}

-- the tag of a repository by its place
pub tag-place : (repositories : List Repository) (i : ℕ) (repository : Repository) → i < length repositories → repository ≡ get_or repositories i repository → tag_at repositories i ≡ repository.tag
tag-place repositories i repository lt at =
    ap (λ (o : Option Repository). unwrap_or (option_map (λ (r : Repository). r.tag) o) []) (slice_get-get_or repositories i repository lt) ∙ ap (λ (r : Repository). r.tag) (sym at)

module _ (tells : Bool) (repositories : List Repository) (old mid new : ShelfSeen) (i : ℕ) (repository : Repository) (repos : List Repo) (so_far : HasLoaded tells repositories old mid i repos) (lt : i < length repositories)
    (at : repository ≡ get_or repositories i repository) (result : Result Repo RepoError) (given : Told tells (Gives (λ (r : Repo). r) result (repo_of i repository.tag (volume_of mid.repositories i)))) where
  here : Told tells (Gives (λ (r : Repo). r) result (repo_of i repository.tag (volume_of old.repositories i)))
  here t = subst (λ (vs : List Volume). Gives (λ (r : Repo). r) result (repo_of i repository.tag (volume_of vs i))) so_far.same.repositories (given t)

  next_read : Told tells (repos_of repositories old.repositories
      ≡ in_front repos (joined_repos repository.tag (repo_of i repository.tag (volume_of old.repositories i)) (repos_from (i + 1) (drop (i + 1) repositories) old.repositories)))
  next_read t = so_far.read t ∙ ap (λ (rs : List Repository). in_front repos (repos_from i rs old.repositories)) (next_repository repositories i repository lt at)

  -- one repository more
  pub loaded_more : (repo : Repo) → result ≡ Ok repo → SameShelf mid new → mid.faults ≤ new.faults → HasLoaded tells repositories old new (i + 1) (repos ++ repo ∷ [])
  loaded_more repo is same later = record {
    same = join_shelf old mid new so_far.same same;
    later = omega (arith, so_far.later, later);
    all = let all : length repos ≡ i = so_far.all in omega (arith, length-append repos (repo ∷ []), all);
    read = λ t. next_read t
        ∙ ap (λ (r : Result Repo RepoFault). in_front repos (joined_repos repository.tag r (repos_from (i + 1) (drop (i + 1) repositories) old.repositories)))
        (subst (λ (r : Result Repo RepoError). Gives (λ (r : Repo). r) r (repo_of i repository.tag (volume_of old.repositories i))) is (here t))
        ∙ in_front_more repos repo repository.tag (repos_from (i + 1) (drop (i + 1) repositories) old.repositories);
  }

  unloaded : (found : Option RepoFault) → Told tells (IfSome found (λ fault. repo_of i repository.tag (volume_of old.repositories i) ≡ Err fault))
      → Told tells (IfSome found (λ fault. repos_of repositories old.repositories ≡ Err (repo_refusal (tag_at repositories i) fault)))
  unloaded None is t = tt
  unloaded (Some fault) is t = next_read t
      ∙ ap (λ (r : Result Repo RepoFault). in_front repos (joined_repos repository.tag r (repos_from (i + 1) (drop (i + 1) repositories) old.repositories))) (is t)
      ∙ ap (λ (tag : List ℕ). Err (repo_refusal tag fault)) (sym (tag-place repositories i repository lt at))

  -- the first one that isn't loaded
  pub loaded_none : (error : RepoError) → result ≡ Err error → Told tells (IsUnloaded repositories old.repositories i error)
  loaded_none error is = unloaded (fault_of error) (λ t. subst (λ (r : Result Repo RepoError). Gives (λ (r : Repo). r) r (repo_of i repository.tag (volume_of old.repositories i))) is (here t))

-- all were loaded
pub loaded_all : (tells : Bool) (repositories : List Repository) (old new : ShelfSeen) (i : ℕ) (repos : List Repo) → HasLoaded tells repositories old new i repos → length repositories ≤ i
    → Told tells (repos_of repositories old.repositories ≡ Ok repos)
loaded_all tells repositories old new i repos so_far done t =
    so_far.read t ∙ ap (λ (rs : List Repository). in_front repos (repos_from i rs old.repositories)) (drop_all i repositories done) ∙ ap (λ (rs : List Repo). Ok rs) (append-nil repos)

-- no refusal of a repository is one of words
pub repo-wordless : (tag : List ℕ) (fault : RepoFault) → IsOfWords (repo_refusal tag fault) → ⊥
repo-wordless tag (faults.Absent name) of = of
repo-wordless tag faults.BadDigestLine of = of
repo-wordless tag (faults.RepoDigest want got) of = of
repo-wordless tag (faults.RepoDatabase line kind) of = of
repo-wordless tag (faults.TooLarge what limit) of = of

-- nor one that was made of a fault, if any
pub found-wordless : (tag : List ℕ) (found : Option RepoFault) (refusal : Refusal) → Some refusal ≡ option_map (repo_refusal tag) found → IsOfWords refusal → ⊥
found-wordless tag None refusal is of = absurd (cc)
found-wordless tag (Some fault) refusal is of =
    let same : refusal ≡ repo_refusal tag fault = cc in
    repo-wordless tag fault (subst IsOfWords same of)

module _ {T : Type 0} (host : Bool) (seen : T → Seen) (first : Seen) (ending : Ending) (state : Result Seen T) where
  -- any command, beside a shelf and told by more
  pub performs_beside : (tells : Bool) → (IsTrue tells → IsTrue host) → (before after : Faults) (command : Volume → Run) → Performs host seen command 0 first no_devices no_devices ending state
      → Performs tells seen command 0 first before after ending state
  performs_beside tells told before after command performs =
      performs_fewer tells host told seen 0 first before after ending state command (performs_alone host seen 0 first before after ending state command performs)

  refused_by : (tag : List ℕ) (found : Option RepoFault) (refusal : Refusal) → Some refusal ≡ option_map (repo_refusal tag) found → (tells : Bool) (command : Volume → Run)
      → Told tells (IfSome found (λ fault. (tree : Volume) → command tree ≡ refused (repo_refusal tag fault))) → Told tells ((tree : Volume) → command tree ≡ refused refusal)
  refused_by tag None refusal is tells command same t tree = absurd (cc)
  refused_by tag (Some fault) refusal is tells command same t tree =
      let one : repo_refusal tag fault ≡ refusal = cc in
      same t tree ∙ ap refused one

  -- a repository that is refused
  pub ends_refused : (tag : List ℕ) (error : RepoError) (refusal : Refusal) → Some refusal ≡ option_map (repo_refusal tag) (fault_of error) → Performs host seen (λ _. refused refusal) 0 first no_devices no_devices ending state
      → EndsUnloaded host seen tag error first ending state
  ends_refused tag error refusal is near tells command before after told rose same =
      performs_same tells seen 0 first (counted_faults before) (counted_faults after) ending state (λ _. refused refusal) command
      (λ t tree stood. sym (refused_by tag (fault_of error) refusal is tells command same t tree))
      (performs_beside tells told (counted_faults before) (counted_faults after) (λ _. refused refusal) near)

  -- a command that gave up
  pub ends_given_up : (tag : List ℕ) (error : RepoError) → ((command : Volume → Run) → Performs host seen command 0 first no_devices no_devices ending state) → EndsUnloaded host seen tag error first ending state
  ends_given_up tag error near tells command before after told rose same = performs_beside tells told (counted_faults before) (counted_faults after) command (near command)

  -- a command that stopped at the repositories
  pub ends_stopped : (tag : List ℕ) (error : RepoError) → error ≡ ShelfFault → ((command : Volume → Run) (before after : Faults) → Rose before.shelf after.shelf → Performs host seen command 0 first before after ending state)
      → EndsUnloaded host seen tag error first ending state
  ends_stopped tag error is near tells command before after told rose same =
      performs_fewer tells host told seen 0 first (counted_faults before) (counted_faults after) ending state command (near command (counted_faults before) (counted_faults after) (rose is))

pub host_told : (shelf host : Bool) → IsTrue (shelf && host) → IsTrue host
host_told true host is = is
host_told false host is = absurd (cc)

shelf_told : (shelf host : Bool) → IsTrue (shelf && host) → IsTrue shelf
shelf_told true host is = refl
shelf_told false host is = absurd (cc)

-- the pins and the repositories were read
pub offer-loaded : (shelf host : Bool) (repositories : List Repository) (volumes : List Volume) (old new : Planted) (pins : List PinLine) (repos : List Repo) → LoadsPins host old new pins
    → length repos ≤ 16 → Told shelf (repos_of repositories volumes ≡ Ok repos) → LoadsOffer (shelf && host) repositories volumes old new pins repos
offer-loaded shelf host repositories volumes old new pins repos reads few loaded = record {
  quiet = advances_fewer (shelf && host) host (host_told shelf host) (λ _. []) old.seen new.seen reads.quiet;
  db = reads.db;
  few = few;
  pinned = λ t. reads.read (host_told shelf host t);
  loaded = λ t. loaded (shelf_told shelf host t);
}

module _ {T : Type 0} (shelf host : Bool) (seen : T → Seen) (repositories : List Repository) (volumes : List Volume) (before after : ℕ) (ending : Ending) (state : Result Seen T) (old new : Planted) where
  -- what is left of a command behind its pins and repositories
  pub performs_offered : (tells : Bool) (more : ℕ) (pins : List PinLine) (repos : List Repo) (go : Volume → List PinLine → List Repo → Run) → LoadsOffer tells repositories volumes old new pins repos
      → Performs tells seen (λ tree. go tree pins repos) more new.seen (counted_faults before) (counted_faults after) ending state
      → Performs tells seen (λ tree. offering repositories volumes (go tree) tree) more old.seen (counted_faults before) (counted_faults after) ending state
  performs_offered tells more pins repos go loads near =
      performs_same tells seen more old.seen (counted_faults before) (counted_faults after) ending state (λ tree. go tree pins repos) (λ tree. offering repositories volumes (go tree) tree)
      (λ t tree stood. sym (ap (over_read (λ (ps : List PinLine). over_read (go tree ps) (repos_of repositories volumes))) (loads.pinned t tree stood) ∙ ap (over_read (go tree pins)) (loads.loaded t)))
      (performs_quiet tells seen more old.seen (counted_faults before) (counted_faults after) ending state (λ tree. go tree pins repos) new.seen loads.quiet near)

  -- a command that ended at its pins
  pub performs_unpinned_offer : (go : Volume → List PinLine → List Repo → Run) → ((go : Volume → List PinLine → Run) → Performs host seen (λ t. over_pins (go t) t) 0 old.seen no_devices no_devices ending state)
      → Performs (shelf && host) seen (λ t. offering repositories volumes (go t) t) 0 old.seen (counted_faults before) (counted_faults after) ending state
  performs_unpinned_offer go near =
      performs_beside host seen old.seen ending state (shelf && host) (host_told shelf host) (counted_faults before) (counted_faults after) (λ t. offering repositories volumes (go t) t)
      (near (λ t pins. over_read (go t pins) (repos_of repositories volumes)))

  -- one that gave up behind its pins
  pub performs_offer_given_up : (pins : List PinLine) (go : Volume → List PinLine → List Repo → Run) → LoadsPins host old new pins
      → ((command : Volume → Run) → Performs host seen command 0 new.seen no_devices no_devices ending state)
      → Performs (shelf && host) seen (λ t. offering repositories volumes (go t) t) 0 old.seen (counted_faults before) (counted_faults after) ending state
  performs_offer_given_up pins go reads near =
      performs_beside host seen old.seen ending state (shelf && host) (host_told shelf host) (counted_faults before) (counted_faults after) (λ t. offering repositories volumes (go t) t)
      (performs_quiet host seen 0 old.seen no_devices no_devices ending state (λ t. offering repositories volumes (go t) t) new.seen reads.quiet (near (λ t. offering repositories volumes (go t) t)))

  unloaded_run : (go : Volume → List Repo → Run) (read : Result (List Repo) Refusal) (tag : List ℕ) (found : Option RepoFault) → IfSome found (λ fault. read ≡ Err (repo_refusal tag fault))
      → IfSome found (λ fault. (tree : Volume) → over_read (go tree) read ≡ refused (repo_refusal tag fault))
  unloaded_run go read tag None is = tt
  unloaded_run go read tag (Some fault) is = λ tree. ap (over_read (go tree)) is

  -- one that ended at a repository that isn't loaded
  pub performs_unloaded : (pins : List PinLine) (go : Volume → List PinLine → List Repo → Run) → LoadsPins host old new pins → (place : ℕ) (error : RepoError) → Told shelf (IsUnloaded repositories volumes place error)
      → (error ≡ ShelfFault → Rose before after) → EndsUnloaded host seen (tag_at repositories place) error new.seen ending state
      → Performs (shelf && host) seen (λ t. offering repositories volumes (go t) t) 0 old.seen (counted_faults before) (counted_faults after) ending state
  performs_unloaded pins go reads place error unread rose near =
      let command : Volume → Run = λ t. over_read (go t pins) (repos_of repositories volumes) in
      performs_same (shelf && host) seen 0 old.seen (counted_faults before) (counted_faults after) ending state command (λ t. offering repositories volumes (go t) t)
      (λ t tree stood. sym (ap (over_read (λ (ps : List PinLine). over_read (go tree ps) (repos_of repositories volumes))) (reads.read (host_told shelf host t) tree stood)))
      (performs_quiet (shelf && host) seen 0 old.seen (counted_faults before) (counted_faults after) ending state command new.seen
      (advances_fewer (shelf && host) host (host_told shelf host) (λ _. []) old.seen new.seen reads.quiet)
      (near (shelf && host) command before after (host_told shelf host) rose
      (λ t. unloaded_run (λ tree. go tree pins) (repos_of repositories volumes) (tag_at repositories place) (fault_of error) (unread (shelf_told shelf host t)))))

-- the steps of a run over pins and repositories are labelled where those over any are
pub labelled-offered : (repositories : List Repository) (volumes : List Volume) (go : List PinLine → List Repo → Run) → ((pins : List PinLine) (repos : List Repo) → AreLabelled (go pins repos).events) → (tree : Volume)
    → AreLabelled (offering repositories volumes go tree).events
labelled-offered repositories volumes go each tree = labelled-pinned (λ pins. over_read (go pins) (repos_of repositories volumes)) (λ pins. by pins (repos_of repositories volumes)) tree
  where
    by : (pins : List PinLine) (read : Result (List Repo) Refusal) → AreLabelled (over_read (go pins) read).events
    by pins (Ok repos) = each pins repos
    by pins (Err refusal) = tt
