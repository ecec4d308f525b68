-- What `remove` says and does.
use Rattle.std.specs.Prelude.{◌≡◌, ℕ, ◌+◌, codes, Bool, List, [], ◌∷◌, ◌++◌, length, map, Result, Ok, Err}
use Rattle.std.specs.List.{flat_map}
use Rattle.tl_model.specs.Trace.{Step}
use Rattle.tl_model.specs.Volume.{Volume}
use Rattle.tl_entry.specs.declared.object.Object.{Object}
use Rattle.tl_tree.specs.Changes.{entries_after, changed}
use Rattle.tl_tree.specs.declared.change.Part.{Part}
use Rattle.tl_tree.specs.declared.change.Part.TheVariants as parts
use Rattle.tl_backup.specs.Autobackup.{autobackup}
use Rattle.tl_backup.specs.declared.error.BackupError.{BackupError}
use Rattle.tl_plan.specs.Removal.{removal_of}
use Rattle.tl_plan.specs.declared.planned.Planned.{Planned}
use Rattle.tl_plan.specs.declared.planned.Planned.TheVariants.{Remove}
use Rattle.tl_plan.specs.declared.error.PlanError.{PlanError}
use Rattle.tl_plan.specs.declared.error.PlanError.TheVariants as plans
use Rattle.tl_refusal.specs.declared.refusal.Refusal.TheVariants.{Protected, NotInstalled, Needed}
use Rattle.tl_command.specs.Labels.{step_label}
use Rattle.tl_command.specs.Runs.{Run, changing_entries, finished, followed, refused}
use Rattle.tl_command.specs.Steps.{running}
use Rattle.tl_backups.specs.Faults.{faulted}
use Rattle.tl_formats.specs.Ending.{before_of, formats_end}

-- what a part of a plan is called where its step is acknowledged
abbrev pub change_text : Planned → List ℕ
change_text (Remove name) = codes "remove " ++ name

-- what a step of a plan is called: its parts, with a comma and a space between two
abbrev pub changes_text : List Planned → List ℕ
changes_text [] = []
changes_text (part ∷ more) = change_text part ++ flat_map (λ next. codes ", " ++ change_text next) more

-- one package leaves in a step, and nothing else is done
abbrev pub RemovesOne : List Planned → Type 0
RemovesOne step = (name : List ℕ) × (step ≡ Remove name ∷ [])

-- what a part of a plan does to the tree
abbrev pub part_of : Planned → Part
part_of (Remove name) = parts.Remove name

-- what a step of a plan does to the tree
abbrev pub parts_of : List Planned → List Part
parts_of step = map part_of step

-- the name of the package that leaves or is replaced with a part of a plan
abbrev pub name_left : Planned → List (List ℕ)
name_left (Remove name) = name ∷ []

-- the names of the packages that leave or are replaced in a step of a plan
abbrev pub left_in : List Planned → List (List ℕ)
left_in step = flat_map name_left step

-- the names of the packages that leave or are replaced in some steps of a plan
abbrev pub left_in_all : List (List Planned) → List (List ℕ)
left_in_all steps = flat_map left_in steps

-- the run of a step that does this to the tree with what is added to it, before what comes behind it; or of the fault of that
abbrev pub step_adding : Result (List Part) BackupError → List Part → List ℕ → (List Object → Volume → Run) → List Object → Volume → Run
step_adding (Err fault) parts label rest db tree = faulted fault
step_adding (Ok added) parts label rest db tree =
    followed (Step (changed db (parts ++ added) tree) label ∷ []) (rest (entries_after parts db) (changed db (parts ++ added) tree))

-- the run of a step of a plan, with its number, of so many, before what comes behind it: the limits of the database that it leaves come
-- first, then the backups of what leaves
abbrev pub plan_step : ℕ → ℕ × List Planned → (List Object → Volume → Run) → List Object → Volume → Run
plan_step count step rest db tree = changing_entries db (parts_of step.1)
    (step_adding (autobackup (left_in step.1) db tree) (parts_of step.1) (step_label step.0 count (changes_text step.1)) rest db tree)

-- some things with their numbers, from one on
abbrev pub numbered : {A : Type 0} → ℕ → List A → List (ℕ × A)
numbered from [] = []
numbered from (x ∷ xs) = (from, x) ∷ numbered (from + 1) xs

-- the run that makes the steps of a plan, and then goes on
abbrev pub each_step_run : List (List Planned) → (List Object → Volume → Run) → List Object → Volume → Run
each_step_run steps rest db tree = running (plan_step (length steps)) (numbered 1 steps) rest db tree

-- the run that makes the steps of a plan, and then says the formats to be made anew, where they are asked for
abbrev pub plan_made : Bool → List (List Planned) → List Object → Volume → Run
plan_made formats steps db tree = each_step_run steps (formats_end (before_of formats db)) db tree

-- the run that makes the steps of a plan, or refuses where there is none; want of memory isn't an answer of a plan
abbrev pub plan_run : Bool → Result (List (List Planned)) PlanError → List Object → Volume → Run
plan_run formats (Ok steps) db tree = plan_made formats steps db tree
plan_run formats (Err (plans.Protected name)) db tree = refused (Protected name)
plan_run formats (Err (plans.NotInstalled name)) db tree = refused (NotInstalled name)
plan_run formats (Err (plans.Needed name by)) db tree = refused (Needed name by)
plan_run formats (Err plans.NoMemory) db tree = finished

-- the run of `remove` over a tree with these entries
abbrev pub remove_run : List (List ℕ) → Bool → Bool → Volume → List Object → Run
remove_run names force formats tree db = plan_run formats (removal_of db names force) db tree
