-- The entries that the repositories and a tree have together, in the order of their names.
use Rattle.std.specs.Prelude.{ℕ, List, ◌++◌, map}
use Rattle.std.specs.List.{flat_map, filter_map}
use Rattle.tl_entry.specs.declared.object.Object.{Object}
use Rattle.tl_entry.specs.FilePaths.{rising_of}
use Rattle.tl_db.specs.declared.repo.Repo.{Repo}
use Rattle.tl_pin.specs.declared.line.PinLine.{PinLine}
use Rattle.tl_pin.specs.Candidates.{view_entry}

-- the names of some entries
abbrev pub entry_names : List Object → List (List ℕ)
entry_names entries = map (λ (o : Object). o.name) entries

-- the names that repositories and a tree have, one database after the other
abbrev pub all_names : List Repo → List Object → List (List ℕ)
all_names repos installed = flat_map (λ (repo : Repo). entry_names repo.db) repos ++ entry_names installed

-- the same in the order of their bytes, each once
abbrev pub known_names : List Repo → List Object → List (List ℕ)
known_names repos installed = rising_of (all_names repos installed)

-- the entries of the view in the order of their names
abbrev pub view_entries : List PinLine → List Repo → List Object → List Object
view_entries pins repos installed = filter_map (view_entry pins repos installed) (known_names repos installed)
