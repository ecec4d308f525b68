-- The packages of which the steps of a plan speak, and what is backed up of those that leave or are replaced.
use Rattle.std.specs.Prelude.{ℕ, List, [], ◌∷◌, Result, Ok}
use Rattle.std.specs.List.{flat_map}
use Rattle.tl_model.specs.Volume.{Volume}
use Rattle.tl_entry.specs.declared.object.Object.{Object}
use Rattle.tl_db.specs.declared.repo.Repo.{Repo}
use Rattle.tl_tree.specs.Conditions.{spoken_names}
use Rattle.tl_tree.specs.declared.change.Part.{Part}
use Rattle.tl_backup.specs.Autobackup.{autobackup}
use Rattle.tl_backup.specs.declared.error.BackupError.{BackupError}
use Rattle.tl_coming.specs.Made.{made_by, made_parts}
use Rattle.tl_coming.specs.declared.part.PlanPart.{PlanPart}
use Rattle.tl_coming.specs.declared.part.PlanPart.TheVariants.{Install, Update, Remove}

-- the name of the package that leaves or is replaced with a part of a plan; none with a package that is installed
abbrev pub name_left : List Repo → PlanPart → List (List ℕ)
name_left repos (Install name repo) = []
name_left repos (Update name repo) = spoken_names (made_by repos (Update name repo))
name_left repos (Remove name) = name ∷ []

-- the names of the packages that leave or are replaced in a step
abbrev pub left_in : List Repo → List PlanPart → List (List ℕ)
left_in repos step = flat_map (name_left repos) step

-- the names of the packages that come, leave or are replaced in some steps
abbrev pub spoken_in : List Repo → List (List PlanPart) → List (List ℕ)
spoken_in repos steps = flat_map (λ step. spoken_names (made_parts repos step)) steps

-- what a step adds for the packages that leave or are replaced in it, by the tree's option `autobackup`; nothing where there is none
abbrev pub backups_in : List (List ℕ) → List Object → Volume → Result (List Part) BackupError
backups_in [] db tree = Ok []
backups_in (name ∷ names) db tree = autobackup (name ∷ names) db tree
