-- The run of the steps of a plan by which packages come.
use Rattle.std.specs.Prelude.{ℕ, ◌+◌, Bool, List, [], ◌∷◌, ◌++◌, length, Result, Ok, Err}
use Rattle.tl_model.specs.Seen.{Seen}
use Rattle.tl_model.specs.Trace.{Step}
use Rattle.tl_model.specs.Volume.{Volume}
use Rattle.tl_entry.specs.declared.object.Object.{Object}
use Rattle.tl_db.specs.declared.repo.Repo.{Repo}
use Rattle.tl_tree.specs.Changes.{changed, entries_after}
use Rattle.tl_tree.specs.Filled.{filled}
use Rattle.tl_tree.specs.Planted.{Planted}
use Rattle.tl_tree.specs.declared.change.Part.{Part}
use Rattle.tl_backup.specs.declared.error.BackupError.{BackupError}
use Rattle.tl_backups.specs.Faults.{faulted}
use Rattle.tl_coming.specs.Made.{made_parts}
use Rattle.tl_coming.specs.declared.part.PlanPart.{PlanPart}
use Rattle.tl_command.specs.declared.ending.Ending.{Ending}
use Rattle.tl_command.specs.Endings.{Faults}
use Rattle.tl_command.specs.Labels.{step_label}
use Rattle.tl_command.specs.Performs.{Performs}
use Rattle.tl_command.specs.Runs.{Run, changing_entries, followed}
use Rattle.tl_fill.specs.Filling.{over_containers}
use Rattle.tl_fill.specs.Wanted.{Wanted}
use Rattle.tl_formats.specs.Ending.{before_of, formats_end}
use Rattle.tl_install.specs.Fetched.{wanted_in}
use Rattle.tl_install.specs.Labels.{coming_texts}
use Rattle.tl_install.specs.Left.{backups_in, left_in}

-- the run of a step that does this to the tree, with what is added to it, and fetches these containers, before what comes behind it; or
-- that of the fault of what is added
abbrev pub step_with : List Volume → List Wanted → Result (List Part) BackupError → List Part → List ℕ → (List Object → Volume → Run)
    → List Object → Volume → Run
step_with volumes wanted (Err fault) parts label rest db tree = faulted fault
step_with volumes wanted (Ok added) parts label rest db tree =
    over_containers volumes wanted (λ files. followed (Step (changed db (filled files (parts ++ added)) tree) label ∷ [])
    (rest (entries_after parts db) (changed db (filled files (parts ++ added)) tree))) []

-- the run of a step, with its number, of so many, before what comes behind it: the limits of the database that it leaves come first,
-- then the backups of what leaves or is replaced, then the fetches
abbrev pub coming_step : List Volume → List Repo → ℕ → ℕ → List PlanPart → (List Object → Volume → Run) → List Object → Volume → Run
coming_step volumes repos number count step rest db tree =
    changing_entries db (made_parts repos step)
    (step_with volumes (wanted_in repos step) (backups_in (left_in repos step) db tree) (made_parts repos step)
    (step_label number count (coming_texts repos step)) rest db tree)

-- the run that makes the steps, the first one having this number of so many, and then goes on
abbrev pub steps_run : List Volume → List Repo → ℕ → ℕ → List (List PlanPart) → (List Object → Volume → Run) → List Object → Volume → Run
steps_run volumes repos number count [] rest db tree = rest db tree
steps_run volumes repos number count (step ∷ steps) rest db tree =
    coming_step volumes repos number count step (steps_run volumes repos (number + 1) count steps rest) db tree

-- the run that makes the steps of a plan, and then says the formats to be made anew, where they are asked for
abbrev pub plan_made : List Volume → List Repo → Bool → List (List PlanPart) → List Object → Volume → Run
plan_made volumes repos formats steps db tree = steps_run volumes repos 1 (length steps) steps (formats_end (before_of formats db)) db tree

-- from the tree old to the tree new a part of a command was carried out: whatever is performed behind it is performed with it, from old on
pub record CarriesOn {T : Type 0} (tells : Bool) (seen : T → Seen) (part : (List Object → Volume → Run) → List Object → Volume → Run)
    (old new : Planted) : Type 0 where
  pub on : (rest : List Object → Volume → Run) (before after : Faults) (ending : Ending) (state : Result Seen T)
      → Performs tells seen (λ t. rest new.db t) 0 new.seen before after ending state
      → Performs tells seen (λ t. part rest old.db t) 0 old.seen before after ending state
