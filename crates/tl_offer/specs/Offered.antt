-- The repositories of a command, as it reads them behind the pins of its tree.
use Rattle.std.specs.Prelude.{◌≡◌, ◌≤◌, ℕ, ◌+◌, Bool, IsTrue, List, [], ◌∷◌, length}
use Rattle.std.specs.Prelude.{slice_get, unwrap_or, option_map, Some, IfSome, Result, Ok, Err}
use Rattle.tl_model.specs.Causes.{Rose}
use Rattle.tl_model.specs.Seen.{Seen, Told}
use Rattle.tl_model.specs.Volume.{Volume}
use Rattle.tl_journal_text.specs.Stand.{stand}
use Rattle.tl_db.specs.declared.repo.Repo.{Repo}
use Rattle.tl_pin.specs.declared.line.PinLine.{PinLine}
use Rattle.tl_repo.specs.Faults.{RepoFault, Absent, BadDigestLine, RepoDigest, RepoDatabase, TooLarge, fault_of}
use Rattle.tl_repo.specs.Files.{volume_of}
use Rattle.tl_repo.specs.Loading.{repo_of}
use Rattle.tl_repo.specs.declared.error.RepoError.{RepoError}
use Rattle.tl_repo.specs.declared.error.RepoError.TheVariants.{ShelfFault}
use Rattle.tl_action.specs.declared.command.Repository.{Repository}
use Rattle.tl_tree.specs.Planted.{Planted}
use Rattle.tl_refusal.specs.declared.refusal.Refusal.{Refusal}
use Rattle.tl_refusal.specs.declared.refusal.Refusal.TheVariants as refusals
use Rattle.tl_command.specs.declared.ending.Ending.{Ending}
use Rattle.tl_command.specs.Endings.{Faults}
use Rattle.tl_command.specs.Performs.{Performs, Advances}
use Rattle.tl_command.specs.Runs.{Run, refused}
use Rattle.tl_offer.specs.Pinned.{over_pins, over_read, pins_in}

-- the refusal of a repository with a tag, by why it doesn't read
abbrev pub repo_refusal : List ℕ → RepoFault → Refusal
repo_refusal tag (Absent name) = refusals.Absent tag name
repo_refusal tag BadDigestLine = refusals.BadDigestLine tag
repo_refusal tag (RepoDigest want got) = refusals.RepoDigest tag want got
repo_refusal tag (RepoDatabase line kind) = refusals.RepoDatabase tag line kind
repo_refusal tag (TooLarge what limit) = refusals.TooLarge what limit

-- one repository in front of others that were read, or its refusal, or theirs
abbrev pub joined_repos : List ℕ → Result Repo RepoFault → Result (List Repo) Refusal → Result (List Repo) Refusal
joined_repos tag (Err fault) others = Err (repo_refusal tag fault)
joined_repos tag (Ok repo) (Err refusal) = Err refusal
joined_repos tag (Ok repo) (Ok repos) = Ok (repo ∷ repos)

-- what repositories read as where so many stand before them, each under its place as its number; or the refusal of the first that doesn't
abbrev pub repos_from : ℕ → List Repository → List Volume → Result (List Repo) Refusal
repos_from number [] volumes = Ok []
repos_from number (repository ∷ others) volumes =
    joined_repos repository.tag (repo_of number repository.tag (volume_of volumes number)) (repos_from (number + 1) others volumes)

-- what all repositories of a command read as, or the first refusal
abbrev pub repos_of : List Repository → List Volume → Result (List Repo) Refusal
repos_of repositories volumes = repos_from 0 repositories volumes

-- a run over the pins of a tree and over repositories that hold this
abbrev pub offering : List Repository → List Volume → (List PinLine → List Repo → Run) → Volume → Run
offering repositories volumes go tree = over_pins (λ pins. over_read (go pins) (repos_of repositories volumes)) tree

-- the counts of faults of a shelf that has counted so many, and of no input
abbrev pub counted_faults : ℕ → Faults
counted_faults count = record { shelf = count; input = 0 }

-- the pins of a tree and some repositories, 16 at most, were read: nothing else was done
pub record LoadsOffer (tells : Bool) (repositories : List Repository) (volumes : List Volume) (old new : Planted) (pins : List PinLine)
    (repos : List Repo) : Type 0 where
  pub quiet : Advances tells (λ _. []) old.seen new.seen
  pub db : new.db ≡ old.db
  pub few : length repos ≤ 16
  pub pinned : Told tells ((tree : Volume) → stand old.seen.present.held ≡ Some tree → pins_in tree ≡ Ok pins)
  pub loaded : Told tells (repos_of repositories volumes ≡ Ok repos)

-- the tag of the repository at a place
abbrev pub tag_at : List Repository → ℕ → List ℕ
tag_at repositories place = unwrap_or (option_map (λ (r : Repository). r.tag) (slice_get repositories place)) []

-- an error at a place of some repositories says what they read as: the refusal of that one, where it is none of the device or of memory
abbrev pub IsUnloaded : List Repository → List Volume → ℕ → RepoError → Type 0
IsUnloaded repositories volumes place error =
    IfSome (fault_of error) (λ fault. repos_of repositories volumes ≡ Err (repo_refusal (tag_at repositories place) fault))

-- a command was ended by a repository with a tag that isn't loaded: it was refused where the command is so, else it stopped there
abbrev pub EndsUnloaded : {T : Type 0} → Bool → (T → Seen) → List ℕ → RepoError → Seen → Ending → Result Seen T → Type 0
EndsUnloaded host seen tag error first ending state = (tells : Bool) (command : Volume → Run) (before after : ℕ)
    → (IsTrue tells → IsTrue host) → (error ≡ ShelfFault → Rose before after)
    → Told tells (IfSome (fault_of error) (λ fault. (tree : Volume) → command tree ≡ refused (repo_refusal tag fault)))
    → Performs tells seen command 0 first (counted_faults before) (counted_faults after) ending state
