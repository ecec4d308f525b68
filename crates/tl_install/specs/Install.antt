-- What `install` says and does.
use Rattle.std.specs.Prelude.{ℕ, Bool, List, Result, Ok, Err}
use Rattle.tl_model.specs.Volume.{Volume}
use Rattle.tl_entry.specs.declared.object.Object.{Object}
use Rattle.tl_db.specs.declared.repo.Repo.{Repo}
use Rattle.tl_action.specs.declared.command.Repository.{Repository}
use Rattle.tl_coming.specs.declared.error.ComingError.{ComingError}
use Rattle.tl_coming.specs.declared.error.ComingError.TheVariants as errors
use Rattle.tl_coming.specs.declared.part.PlanPart.{PlanPart}
use Rattle.tl_bring.specs.Installation.{install_of}
use Rattle.tl_bring.specs.declared.coming.InstallAsk.{InstallAsk}
use Rattle.tl_refusal.specs.declared.refusal.Refusal.TheVariants as refusals
use Rattle.tl_command.specs.Runs.{Run, finished, refused}
use Rattle.tl_offer.specs.Offered.{offering}
use Rattle.tl_install.specs.Steps.{plan_made}

-- the run that refuses such a plan; a fault of the host and want of memory are no answers of it
abbrev pub refused_plan : ComingError → Run
refused_plan (errors.Protected name) = refused (refusals.Protected name)
refused_plan (errors.NotInstalled name) = refused (refusals.NotInstalled name)
refused_plan (errors.UnknownPackage name) = refused (refusals.UnknownPackage name)
refused_plan (errors.BadExecute name at kind) = refused (refusals.BadExecute name at kind)
refused_plan (errors.Reserved path) = refused (refusals.Reserved path)
refused_plan (errors.Clash path first second) = refused (refusals.Clash path first second)
refused_plan (errors.Owned path owner) = refused (refusals.Owned path owner)
refused_plan (errors.TooLarge what limit) = refused (refusals.TooLarge what limit)
refused_plan (errors.Occupied path) = refused (refusals.Occupied path)
refused_plan errors.HostFault = finished
refused_plan errors.NoMemory = finished

-- the run that makes the steps of a plan, or refuses where there is none
abbrev pub planned_run : List Volume → List Repo → Bool → Result (List (List PlanPart)) ComingError → List Object → Volume → Run
planned_run volumes repos formats (Ok steps) db tree = plan_made volumes repos formats steps db tree
planned_run volumes repos formats (Err error) db tree = refused_plan error

-- the run of `install` of some names over a tree with these entries
abbrev pub install_run : List (List ℕ) → InstallAsk → Bool → List Repository → List Volume → Volume → List Object → Run
install_run names ask formats repositories volumes tree db =
    offering repositories volumes (λ pins repos. planned_run volumes repos formats (install_of pins repos db tree names ask) db tree) tree
