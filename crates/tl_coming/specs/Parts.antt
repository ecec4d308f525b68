-- The parts of a plan by which packages come: whose package, which entry, which paths.
use Rattle.std.specs.Prelude.{ℕ, List, [], filter, Option, Some, None, option_and_then, slice_get}
use Rattle.std.specs.List.{flat_map}
use Rattle.tl_model.specs.Volume.{same_name}
use Rattle.tl_entry.specs.FilePaths.{listed_paths}
use Rattle.tl_entry.specs.declared.object.Object.{Object}
use Rattle.tl_db.specs.Entries.{entry_of}
use Rattle.tl_db.specs.declared.repo.Repo.{Repo}
use Rattle.tl_tree.specs.Changes.{own}
use Rattle.tl_coming.specs.declared.part.PlanPart.{PlanPart}
use Rattle.tl_coming.specs.declared.part.PlanPart.TheVariants.{Install, Update, Remove}

-- the name of the package that a part of a plan speaks of
abbrev pub part_name : PlanPart → List ℕ
part_name (Install name repo) = name
part_name (Update name repo) = name
part_name (Remove name) = name

-- the entry with a name in the repository at a place
abbrev pub entry_at : List Repo → ℕ → List ℕ → Option Object
entry_at repos place name = option_and_then (λ (repo : Repo). entry_of name repo.db) (slice_get repos place)

-- the entry of the package that comes with a part of a plan; None where one leaves
abbrev pub part_entry : List Repo → PlanPart → Option Object
part_entry repos (Install name repo) = entry_at repos repo name
part_entry repos (Update name repo) = entry_at repos repo name
part_entry repos (Remove name) = None

-- the paths that an entry lists; none where there is no entry
abbrev pub listed_or_none : Option Object → List (List ℕ)
listed_or_none None = []
listed_or_none (Some entry) = listed_paths entry

-- the paths that come with a part of a plan
abbrev pub paths_with : List Repo → PlanPart → List (List ℕ)
paths_with repos part = listed_or_none (part_entry repos part)

-- the files of the installed package that a part of a plan speaks of
abbrev pub files_with : List Object → PlanPart → List (List ℕ)
files_with db part = flat_map own (filter (λ (entry : Object). same_name entry.name (part_name part)) db)
