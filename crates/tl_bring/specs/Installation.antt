-- The plan by which packages are installed, or its first refusal.
use Rattle.std.specs.Prelude.{ℕ, not, if◌then◌else◌, List, [], Option, find, option_map, is_some, Result}
use Rattle.std.specs.List.{filter_map}
use Rattle.std.specs.Option.{option_or}
use Rattle.tl_model.specs.Volume.{Volume}
use Rattle.tl_entry.specs.declared.object.Object.{Object}
use Rattle.tl_db.specs.Entries.{entry_of}
use Rattle.tl_db.specs.declared.repo.Repo.{Repo}
use Rattle.tl_pin.specs.declared.line.PinLine.{PinLine}
use Rattle.tl_pin.specs.Candidates.{candidate_of}
use Rattle.tl_plan.specs.Removal.{is_protected}
use Rattle.tl_coming.specs.Asked.{unless_fault}
use Rattle.tl_coming.specs.Cuts.{plan_cuts}
use Rattle.tl_coming.specs.Planning.{plan_fault}
use Rattle.tl_coming.specs.declared.error.ComingError.{ComingError}
use Rattle.tl_coming.specs.declared.error.ComingError.TheVariants.{Protected, UnknownPackage}
use Rattle.tl_coming.specs.declared.part.PlanPart.{PlanPart}
use Rattle.tl_coming.specs.declared.part.PlanPart.TheVariants.{Install, Update}
use Rattle.tl_bring.specs.Coming.{install_names}
use Rattle.tl_bring.specs.declared.coming.InstallAsk.{InstallAsk}

-- the part of a plan by which a package comes from the repository at a place: in the place of another where these entries have its name
abbrev pub arrival_from : List Object → List ℕ → ℕ → PlanPart
arrival_from replaced name place = if is_some (entry_of name replaced) then Update name place else Install name place

-- the part of a plan by which a package comes from the repository that gives it; None where none does
abbrev pub arrival : List PinLine → List Repo → List Object → List ℕ → Option PlanPart
arrival pins repos replaced name = option_map (λ (candidate : ℕ × Object). arrival_from replaced name candidate.0) (candidate_of pins repos name)

-- the parts by which packages of some names come
abbrev pub arrivals : List PinLine → List Repo → List Object → List (List ℕ) → List PlanPart
arrivals pins repos replaced names = filter_map (arrival pins repos replaced) names

-- the first asked name that the tree keeps for itself
abbrev pub asked_protected : List (List ℕ) → Option ComingError
asked_protected asked = option_map Protected (find is_protected asked)

-- the first asked name that no repository gives
abbrev pub asked_unknown : List PinLine → List Repo → List (List ℕ) → Option ComingError
asked_unknown pins repos asked = option_map UnknownPackage (find (λ name. not (is_some (candidate_of pins repos name))) asked)

-- the first refusal of what an installation is asked
abbrev pub install_fault : List PinLine → List Repo → List (List ℕ) → Option ComingError
install_fault pins repos asked = option_or (asked_protected asked) (asked_unknown pins repos asked)

-- the parts of an installation's plan; none of the packages comes in the place of another
abbrev pub install_plan : List PinLine → List Repo → List Object → List (List ℕ) → InstallAsk → List PlanPart
install_plan pins repos db names ask = arrivals pins repos [] (install_names pins repos db names ask)

-- the steps in which packages are installed where these are asked to be, over a tree with these entries; or the first refusal
abbrev pub install_of : List PinLine → List Repo → List Object → Volume → List (List ℕ) → InstallAsk → Result (List (List PlanPart)) ComingError
install_of pins repos db tree names ask =
    let plan = install_plan pins repos db names ask in
    unless_fault (option_or (install_fault pins repos names) (plan_fault repos db tree plan)) (plan_cuts repos db plan)
