-- The steps of a plan by which packages come.
use Rattle.std.specs.Prelude.{ℕ, if◌then◌else◌, List, [], ◌∷◌, ◌++◌}
use Rattle.std.specs.List.{flat_map, onto_first}
use Rattle.tl_entry.specs.declared.object.Object.{Object}
use Rattle.tl_db.specs.declared.repo.Repo.{Repo}
use Rattle.tl_plan.specs.Plans.{is_any_touching}
use Rattle.tl_coming.specs.Parts.{paths_with, files_with}
use Rattle.tl_coming.specs.declared.part.PlanPart.{PlanPart}

-- the steps of a plan behind parts with which some paths come: it is cut at each place at or before which nothing comes that touches
-- a file of an installed package after it
abbrev pub cuts_behind : List Repo → List Object → List (List ℕ) → List PlanPart → List (List PlanPart)
cuts_behind repos db coming [] = []
cuts_behind repos db coming (part ∷ plan) =
    let here = coming ++ paths_with repos part in
    if is_any_touching here (flat_map (files_with db) plan) then onto_first part (cuts_behind repos db here plan)
    else (part ∷ []) ∷ cuts_behind repos db here plan

-- the steps of a plan
abbrev pub plan_cuts : List Repo → List Object → List PlanPart → List (List PlanPart)
plan_cuts repos db plan = cuts_behind repos db [] plan
