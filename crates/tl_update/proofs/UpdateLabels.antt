-- The steps of an update are labelled.
use Rattle.std.proofs.Common.{◌≡◌, ℕ, Bool, true, false, cond, ◌||◌, List, [], ◌∷◌, ◌++◌, map, Option, Some, None, Ok, refl, sym, ap, subst, ◌∙◌}
use Rattle.std.specs.Prelude.{is_some}
use Rattle.std.specs.List.{AllByRecursion}
use Rattle.std.proofs.lemmas.Bool.{true≢false}
use Rattle.tl_model.specs.Lines.{IsLine}
use Rattle.tl_model.specs.Volume.{Name, Volume, same_name, same_name-is, same_name-refl}
use Rattle.tl_entry.specs.declared.object.Object.{Object}
use Rattle.tl_db.specs.Entries.{entry_of}
use Rattle.tl_db.specs.declared.repo.Repo.{Repo}
use Rattle.tl_pin.specs.declared.line.PinLine.{PinLine}
use Rattle.tl_action.specs.declared.command.Repository.{Repository}
use Rattle.tl_tree.specs.Planted.{database_text}
use Rattle.tl_tree.specs.Staged.{has_name}
use Rattle.tl_backups.proofs.Named.{AreNamed, read_named}
use Rattle.tl_backups.proofs.ReadLabels.{labelled-read}
use Rattle.tl_coming.specs.Asked.{unless_fault}
use Rattle.tl_coming.specs.Cuts.{plan_cuts}
use Rattle.tl_coming.specs.declared.error.ComingError.{ComingError}
use Rattle.tl_coming.specs.declared.part.PlanPart.{PlanPart}
use Rattle.tl_coming.specs.declared.part.PlanPart.TheVariants.{Remove}
use Rattle.tl_command.specs.Runs.{AreLabelled, over_database}
use Rattle.tl_install.specs.Install.{planned_run}
use Rattle.tl_install.proofs.RunLabels.{AreSpoken, HaveNames, labelled-offered, labelled-planned, spoken_arrivals, spoken_cuts}
use Rattle.tl_renew.specs.Updating.{left_names, update_names, update_of, update_plan}
use Rattle.tl_renew.specs.declared.ask.UpdateAsk.{UpdateAsk}
use Rattle.tl_renew.proofs.UpdateLaws.{left_installed}
use Rattle.tl_update.specs.Update.{update_run}

-- an installed package has a name that is one line
installed_line : (name : List ℕ) (db : List Object) → AreNamed db → is_some (entry_of name db) ≡ true → IsLine name
installed_line name [] are is = absurd (true≢false (sym is))
installed_line name (o ∷ db) are is = by (same_name o.name name) refl is (installed_line name db are.1)
  where
    by : (b : Bool) → same_name o.name name ≡ b → is_some (cond b (Some o) (entry_of name db)) ≡ true → (is_some (entry_of name db) ≡ true → IsLine name) → IsLine name
    by true same is rest = subst IsLine (same_name-is o.name name same) are.0
    by false same is rest = rest is

or_true : (t : Bool) → (t || true) ≡ true
or_true true = refl
or_true false = refl

-- names that are one line where each of them is
each_line : (names : List Name) → ((name : Name) → has_name name names ≡ true → IsLine name) → AllByRecursion IsLine names
each_line [] each = tt
each_line (n ∷ names) each =
    (each n (ap (λ t. t || has_name n names) (same_name-refl n)), each_line names (λ name has. each name (ap (λ t. same_name name n || t) has ∙ or_true (same_name name n))))

removes_spoken : (names : List Name) (plan : List PlanPart) → AllByRecursion IsLine names → AreSpoken plan → AreSpoken (map Remove names ++ plan)
removes_spoken [] plan each are = are
removes_spoken (name ∷ names) plan each are = (each.0, removes_spoken names plan each.1 are)

-- the packages of an update's plan have names that are one line
spoken_plan : (pins : List PinLine) (repos : List Repo) (db : List Object) (names : List (List ℕ)) (ask : UpdateAsk) → AreNamed db → HaveNames repos → AreSpoken (update_plan pins repos db names ask)
unfolding update_plan
spoken_plan pins repos db names ask are have = removes_spoken (left_names pins repos db ask) _
    (each_line (left_names pins repos db ask) (λ name has. installed_line name db are (left_installed pins repos db names ask name has)))
    (spoken_arrivals pins repos db (update_names pins repos db names ask) have)

-- a plan that isn't refused has its steps
steps_made : (fault : Option ComingError) (made steps : List (List PlanPart)) → unless_fault fault made ≡ Ok steps → made ≡ steps
steps_made None made steps is = cc
steps_made (Some fault) made steps is = absurd (cc)

-- the steps of an update are labelled
pub labelled-update : (names : List (List ℕ)) (ask : UpdateAsk) (formats : Bool) (repositories : List Repository) (volumes : List Volume) (tree : Volume)
    → AreLabelled (over_database (update_run names ask formats repositories volumes tree) (database_text tree)).events
labelled-update names ask formats repositories volumes tree =
    labelled-read (update_run names ask formats repositories volumes tree) (database_text tree) (λ db read few. labelled-offered repositories volumes
    (λ pins repos. planned_run volumes repos formats (update_of pins repos db tree names ask) db tree) (λ pins repos have. over pins repos db (read_named (database_text tree) db read) have) tree)
  where
    over : (pins : List PinLine) (repos : List Repo) (db : List Object) → AreNamed db → HaveNames repos
        → AreLabelled (planned_run volumes repos formats (update_of pins repos db tree names ask) db tree).events
    over pins repos db are have = labelled-planned volumes repos formats (update_of pins repos db tree names ask) db tree
        (λ steps is. subst (AllByRecursion AreSpoken) (steps_made _ (plan_cuts repos db (update_plan pins repos db names ask)) steps is)
        (spoken_cuts repos db [] (update_plan pins repos db names ask) (spoken_plan pins repos db names ask are have)))
