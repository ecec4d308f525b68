-- The containers that the steps of a plan fetch.
use Rattle.std.specs.Prelude.{◌++◌, ◌==◌, ℕ, not, Bool, true, false, List, [], ◌∷◌, length, Option, Some, None, slice_get}
use Rattle.std.specs.List.{flat_map}
use Rattle.tl_entry.specs.declared.object.Object.{Object}
use Rattle.tl_db.specs.Entries.{entry_of}
use Rattle.tl_db.specs.declared.repo.Repo.{Repo}
use Rattle.tl_fetch.specs.declared.container.ContainerPart.{ContainerPart}
use Rattle.tl_fetch.specs.declared.container.ContainerPart.TheVariants.{Run, Doc, Src}
use Rattle.tl_coming.specs.declared.part.PlanPart.{PlanPart}
use Rattle.tl_coming.specs.declared.part.PlanPart.TheVariants.{Install, Update, Remove}
use Rattle.tl_fill.specs.Wanted.{Wanted}

-- the container of a part of a package, where it is wanted
abbrev pub wanted_if : Bool → Repo → Object → ContainerPart → List Wanted
wanted_if true repo entry part = record { repo = repo; entry = entry; part = part } ∷ []
wanted_if false repo entry part = []

-- the containers of a package: that of the files that it runs on, and those of its documentation and its sources where it has such files
abbrev pub package_wanted : Repo → Object → List Wanted
package_wanted repo entry =
    record { repo = repo; entry = entry; part = Run }
    ∷ (wanted_if (not (length entry.doc.files == 0)) repo entry Doc ++ wanted_if (not (length entry.src.paths == 0)) repo entry Src)

-- the containers of an entry of a repository; none where there is no entry
abbrev pub entry_wanted : Repo → Option Object → List Wanted
entry_wanted repo None = []
entry_wanted repo (Some entry) = package_wanted repo entry

-- the containers of the package with a name in a repository; none where there is no repository
abbrev pub repo_wanted : List ℕ → Option Repo → List Wanted
repo_wanted name None = []
repo_wanted name (Some repo) = entry_wanted repo (entry_of name repo.db)

-- the containers of the package with a name in the repository at a place
abbrev pub wanted_at : List Repo → ℕ → List ℕ → List Wanted
wanted_at repos place name = repo_wanted name (slice_get repos place)

-- the containers that are fetched for a part of a plan
abbrev pub wanted_by : List Repo → PlanPart → List Wanted
wanted_by repos (Install name repo) = wanted_at repos repo name
wanted_by repos (Update name repo) = wanted_at repos repo name
wanted_by repos (Remove name) = []

-- the containers that are fetched for a step of a plan
abbrev pub wanted_in : List Repo → List PlanPart → List Wanted
wanted_in repos step = flat_map (wanted_by repos) step
