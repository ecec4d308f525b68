-- The plan that is made of parts, or its first refusal.
use Rattle.std.specs.Prelude.{Option, List, map, Result}
use Rattle.std.specs.List.{filter_map}
use Rattle.tl_model.specs.Volume.{Volume}
use Rattle.tl_entry.specs.declared.object.Object.{Object}
use Rattle.tl_db.specs.declared.repo.Repo.{Repo}
use Rattle.tl_coming.specs.Asked.{unless_fault}
use Rattle.tl_coming.specs.Cuts.{plan_cuts}
use Rattle.tl_coming.specs.Parts.{part_name, part_entry}
use Rattle.tl_coming.specs.Refused.{coming_fault}
use Rattle.tl_coming.specs.declared.error.ComingError.{ComingError}
use Rattle.tl_coming.specs.declared.part.PlanPart.{PlanPart}

-- the entries of the packages that come with a plan
abbrev pub plan_entries : List Repo → List PlanPart → List Object
plan_entries repos plan = filter_map (part_entry repos) plan

-- the first refusal of a plan over a tree with these entries
abbrev pub plan_fault : List Repo → List Object → Volume → List PlanPart → Option ComingError
plan_fault repos db tree plan = coming_fault db (map part_name plan) tree (plan_entries repos plan)

-- the steps of a plan, or its first refusal
abbrev pub plan_or_fault : List Repo → List Object → Volume → List PlanPart → Result (List (List PlanPart)) ComingError
plan_or_fault repos db tree plan = unless_fault (plan_fault repos db tree plan) (plan_cuts repos db plan)
