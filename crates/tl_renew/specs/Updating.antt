-- The plan by which packages are updated, or its first refusal.
use Rattle.std.specs.Prelude.{ℕ, ◌&&◌, not, if◌then◌else◌, List, [], ◌++◌, map, reverse, Option, find, option_map, is_some, Result}
use Rattle.std.specs.Option.{option_or}
use Rattle.tl_model.specs.Volume.{Volume}
use Rattle.tl_entry.specs.FilePaths.{rising_of}
use Rattle.tl_entry.specs.declared.object.Object.{Object}
use Rattle.tl_db.specs.Entries.{entry_of}
use Rattle.tl_db.specs.declared.repo.Repo.{Repo}
use Rattle.tl_pin.specs.declared.line.PinLine.{PinLine}
use Rattle.tl_pin.specs.Candidates.{view_entry}
use Rattle.tl_coming.specs.Asked.{unless_fault}
use Rattle.tl_coming.specs.Cuts.{plan_cuts}
use Rattle.tl_coming.specs.Planning.{plan_fault}
use Rattle.tl_coming.specs.declared.error.ComingError.{ComingError}
use Rattle.tl_coming.specs.declared.error.ComingError.TheVariants.{NotInstalled}
use Rattle.tl_coming.specs.declared.part.PlanPart.{PlanPart}
use Rattle.tl_coming.specs.declared.part.PlanPart.TheVariants.{Remove}
use Rattle.tl_bring.specs.Coming.{order_by}
use Rattle.tl_bring.specs.Installation.{arrivals, asked_protected}
use Rattle.tl_renew.specs.Updated.{renewed_names}
use Rattle.tl_renew.specs.Unasked.{auto_installed, auto_removed}
use Rattle.tl_renew.specs.declared.ask.UpdateAsk.{UpdateAsk}

-- the names of the packages that come with an update though no one asked for them
abbrev pub unasked_names : List PinLine → List Repo → List Object → UpdateAsk → List (List ℕ)
unasked_names pins repos db ask = if ask.all && ask.auto_install then auto_installed pins repos db ask.reinstall_forced else []

-- the names of the packages that leave with an update
abbrev pub dropped_names : List PinLine → List Repo → List Object → UpdateAsk → List (List ℕ)
dropped_names pins repos db ask = if ask.all && ask.auto_remove then auto_removed pins repos db else []

-- the names of the packages that come with an update, in the order in which they are installed
abbrev pub update_names : List PinLine → List Repo → List Object → List (List ℕ) → UpdateAsk → List (List ℕ)
update_names pins repos db names ask =
    order_by (view_entry pins repos db) (rising_of (renewed_names pins repos db names ask ++ unasked_names pins repos db ask))

-- the names of the packages that leave with an update, the last one that would be installed first
abbrev pub left_names : List PinLine → List Repo → List Object → UpdateAsk → List (List ℕ)
left_names pins repos db ask = reverse (order_by (view_entry pins repos db) (rising_of (dropped_names pins repos db ask)))

-- the parts of an update's plan: what leaves, then what comes, in the place of an installed package where there is one of the name
unfoldable pub update_plan : List PinLine → List Repo → List Object → List (List ℕ) → UpdateAsk → List PlanPart
update_plan pins repos db names ask = map Remove (left_names pins repos db ask) ++ arrivals pins repos db (update_names pins repos db names ask)

-- the first asked name that isn't installed
abbrev pub asked_absent : List Object → List (List ℕ) → Option ComingError
asked_absent db asked = option_map NotInstalled (find (λ name. not (is_some (entry_of name db))) asked)

-- the first refusal of what an update is asked
abbrev pub update_fault : List Object → List (List ℕ) → Option ComingError
update_fault db asked = option_or (asked_protected asked) (asked_absent db asked)

-- the steps in which packages are updated where these are asked to be, over a tree with these entries; or the first refusal
abbrev pub update_of : List PinLine → List Repo → List Object → Volume → List (List ℕ) → UpdateAsk → Result (List (List PlanPart)) ComingError
update_of pins repos db tree names ask =
    let plan = update_plan pins repos db names ask in
    unless_fault (option_or (update_fault db names) (plan_fault repos db tree plan)) (plan_cuts repos db plan)
