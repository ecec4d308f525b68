-- Containers that are to be fetched, and the files that they give.
use Rattle.std.specs.Prelude.{◌≡◌, ◌++◌, ℕ, Bool, true, List, [], ◌∷◌, Option, Result, Ok, slice_get}
use Rattle.std.specs.Option.{option_and_then}
use Rattle.std.specs.List.{flat_map, IsDistinct}
use Rattle.std.specs.FinSet as set
use Rattle.tl_model.specs.Seen.{Told}
use Rattle.tl_model.specs.Volume.{Name, Volume, at, same_name}
use Rattle.tl_db.specs.declared.repo.Repo.{Repo}
use Rattle.tl_entry.specs.declared.object.Object.{Object}
use Rattle.tl_tree.specs.Staged.{has_name}
use Rattle.tl_fetch.specs.declared.container.ContainerPart.{ContainerPart}
use Rattle.tl_fetch.specs.declared.fetch_error.FetchError.{FetchError}
use Rattle.tl_fetch.specs.Containers.{container_name, part_paths}
use Rattle.tl_fetch.specs.Fetching.{HasTaken, container_files}
use Rattle.tl_fetch.specs.Sinks.{SinkSeen}
use Rattle.tl_fetch.specs.Unpacked.{paths_in}
use Rattle.tl_fill.specs.declared.fetch.Fetch.{Fetch}

-- the container of a part of a package of a repository
pub record Wanted : Type 0 where
  pub repo : Repo
  pub entry : Object
  pub part : ContainerPart

-- the container that is to be fetched
abbrev pub wanted_of : Fetch → Wanted
wanted_of fetch = record { repo = fetch.repo.now; entry = fetch.entry.now; part = fetch.part }

-- the paths of the files that a container has to hold
abbrev pub wanted_paths : Wanted → List Name
wanted_paths wanted = part_paths wanted.entry wanted.part

-- the paths of the files that containers have to hold
abbrev pub all_paths : List Wanted → List Name
all_paths all = flat_map wanted_paths all

-- the name of a container in its repository
abbrev pub wanted_name : Wanted → Name
wanted_name wanted = container_name wanted.repo.db wanted.entry wanted.part

-- what repositories hold as a container; None where it is absent
abbrev pub held_as : List Volume → Wanted → Option (List ℕ)
held_as volumes wanted = option_and_then (λ (volume : Volume). at volume (wanted_name wanted)) (slice_get volumes wanted.repo.number)

-- the files of a container that holds this, or isn't there; or why it isn't taken
abbrev pub files_in : Wanted → Option (List ℕ) → Result (List (Name × List ℕ)) FetchError
files_in wanted held = container_files wanted.repo.db wanted.entry wanted.part held

-- the files of a container as repositories hold it; or why it isn't taken
abbrev pub files_wanted : List Volume → Wanted → Result (List (Name × List ℕ)) FetchError
files_wanted volumes wanted = files_in wanted (held_as volumes wanted)

-- files are those of containers one after the other, behind some files: each container held what it has to, and where the repositories
-- tell, what these hold
abbrev pub WereFetched : Bool → List Volume → List Wanted → List (Name × List ℕ) → List (Name × List ℕ) → Type 0
WereFetched tells volumes [] before files = files ≡ before
WereFetched tells volumes (wanted ∷ more) before files =
    (held : Option (List ℕ)) × Told tells (held ≡ held_as volumes wanted)
    × ((own : List (Name × List ℕ)) × (files_in wanted held ≡ Ok own) × WereFetched tells volumes more (before ++ own) files)

-- a sink can be given the files of containers: its last file lacks nothing, all their paths are still taken, and each comes once
pub record AreAwaited (all : List Wanted) (sink : SinkSeen) : Type 0 where
  pub whole : sink.lacks ≡ 0
  pub taken : (path : Name) → has_name path (all_paths all) ≡ true → set.contains sink.takes path ≡ true
  pub apart : IsDistinct same_name (all_paths all)

-- the files of a container went to a sink
abbrev pub HasFilled : Bool → Bool → List Volume → Wanted → SinkSeen → SinkSeen → Type 0
HasFilled tells sink_tells volumes wanted first now =
    (held : Option (List ℕ)) × Told tells (held ≡ held_as volumes wanted)
    × ((files : List (Name × List ℕ)) × (files_in wanted held ≡ Ok files) × HasTaken sink_tells first now files)

-- the files of containers went to a sink, and nothing else
pub record HaveFilled (tells sink_tells : Bool) (volumes : List Volume) (all : List Wanted) (first now : SinkSeen) : Type 0 where
  pub files : List (Name × List ℕ)
  pub fetched : WereFetched tells volumes all [] files
  pub paths : paths_in files ≡ all_paths all
  pub took : HasTaken sink_tells first now files
