-- Plans: what leaves and what comes, in order, and the steps in which it does.
use Rattle.std.specs.Prelude.{ℕ, Bool, if◌then◌else◌, List, [], ◌∷◌, ◌++◌, Option, Some, None, slice_index_or}
use Rattle.std.specs.List.{flat_map, list_any, onto_first}
use Rattle.tl_path.specs.Components.{is_touching}
use Rattle.tl_entry.specs.FilePaths.{listed_paths}
use Rattle.tl_entry.specs.declared.object.Object.{Object}
use Rattle.tl_db.specs.Entries.{entry_of}
use Rattle.tl_tree.specs.Changes.{own_of}
use Rattle.tl_path.specs.declared.kinds.Category.TheVariants.{Package, Collection, Scheme}
use Rattle.tl_depend.specs.Order.{of_rank, category_rank}
use Rattle.tl_plan.specs.declared.planned.Planned.{Planned}
use Rattle.tl_plan.specs.declared.planned.Planned.TheVariants.{Remove}

-- names that stand in the order of their bytes, in the order in which they are installed: those of no collection and no scheme, then the
-- collections, then the schemes
abbrev pub install_order : List Object → List (List ℕ) → List (List ℕ)
install_order db names = of_rank db (category_rank Package) names ++ (of_rank db (category_rank Collection) names ++ of_rank db (category_rank Scheme) names)

-- the name of the package that a part of a plan speaks of
abbrev pub planned_name : Planned → List ℕ
planned_name (Remove name) = name

-- the paths that come with a part of a plan
abbrev pub paths_coming : Planned → List (List ℕ)
paths_coming (Remove name) = []

-- whether a path of some touches one of others
abbrev pub is_any_touching : List (List ℕ) → List (List ℕ) → Bool
is_any_touching some others = list_any (λ path. list_any (is_touching path) others) some

-- the files of the installed packages that a plan speaks of
abbrev pub files_of_plan : List Object → List Planned → List (List ℕ)
files_of_plan db plan = flat_map (λ part. own_of (entry_of (planned_name part) db)) plan

-- the steps of a plan behind parts with which some paths come: it is cut at each place at or before which nothing comes that touches
-- a file of an installed package after it
abbrev pub steps_behind : List Object → List (List ℕ) → List Planned → List (List Planned)
steps_behind db coming [] = []
steps_behind db coming (part ∷ plan) =
    let here = coming ++ paths_coming part in
    if is_any_touching here (files_of_plan db plan) then onto_first part (steps_behind db here plan) else (part ∷ []) ∷ steps_behind db here plan

-- the steps of a plan
abbrev pub plan_steps : List Object → List Planned → List (List Planned)
plan_steps db plan = steps_behind db [] plan
