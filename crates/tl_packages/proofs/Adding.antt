-- A step of a plan with what is added to it.
use Rattle.std.proofs.Common.{◌≡◌, ℕ, Bool, cond, List, [], ◌∷◌, ◌++◌, Result, Ok, Err, refl, sym, ap, subst, ◌∙◌}
use Rattle.std.specs.Prelude.{IfSome, Option, Some, None}
use Rattle.std.specs.List.{AllByRecursion}
use Rattle.tl_model.specs.Acks.{IsLabel}
use Rattle.tl_model.specs.Seen.{Seen, Told}
use Rattle.tl_model.specs.Trace.{Step}
use Rattle.tl_model.specs.Volume.{Volume}
use Rattle.tl_journal_text.specs.Stand.{stand, tree_of}
use Rattle.tl_entry.specs.declared.object.Object.{Object}
use Rattle.tl_tree.specs.Changes.{changed, entries_after, has_entries}
use Rattle.tl_tree.specs.Planted.{Planted}
use Rattle.tl_tree.specs.declared.change.Part.{Part}
use Rattle.tl_backup.specs.Asked.{IsAsked, tree_in}
use Rattle.tl_backup.specs.Autobackup.{autobackup}
use Rattle.tl_backup.specs.Form.{IsOfBackups}
use Rattle.tl_backup.specs.declared.error.BackupError.{BackupError}
use Rattle.tl_backup.specs.declared.error.BackupError.TheVariants as faults
use Rattle.tl_backup.proofs.Changing.{added_entries, added_speaks}
use Rattle.tl_plan.specs.declared.planned.Planned.{Planned}
use Rattle.tl_command.specs.declared.ending.Ending.{Ending}
use Rattle.tl_command.specs.Endings.{no_devices}
use Rattle.tl_command.specs.Labels.{step_label}
use Rattle.tl_command.specs.Loaded.{Steps}
use Rattle.tl_command.specs.Performs.{Performs}
use Rattle.tl_command.specs.Runs.{Run, AreLabelled, changing_entries, followed, leaving_entries, refused, stepping}
use Rattle.tl_command.proofs.Databases.{same_tree}
use Rattle.tl_command.proofs.Joins.{performs_stepped}
use Rattle.tl_backups.specs.Continuing.{Continues}
use Rattle.tl_backups.specs.Faults.{faulted, refusal_of}
use Rattle.tl_backups.proofs.Continuing.{behind}
use Rattle.tl_packages.specs.Remove.{changes_text, left_in, parts_of, plan_step, step_adding}

abbrev run_of : Volume → List ℕ → (List Object → Volume → Run) → Bool → List Object → Run
run_of next label rest speaks entries =
    cond speaks (leaving_entries entries (followed (Step next label ∷ []) (rest entries next))) (followed (Step next label ∷ []) (rest entries next))

-- what is added leaves the entries, so the limits of a step are those without it
stepping-added : (db : List Object) (parts added : List Part) (label : List ℕ) (rest : List Object → Volume → Run) (tree : Volume) → AllByRecursion IsOfBackups added
    → changing_entries db parts (step_adding (Ok added) parts label rest db tree)
    ≡ stepping db (parts ++ added) label (rest (entries_after (parts ++ added) db) (changed db (parts ++ added) tree)) tree
stepping-added db parts added label rest tree all =
    let next = changed db (parts ++ added) tree in
    ap (run_of next label rest (has_entries parts)) (sym (added_entries parts added db all))
    ∙ ap (λ (b : Bool). run_of next label rest b (entries_after (parts ++ added) db)) (sym (added_speaks parts added all))

module _ {T : Type 0} (tells : Bool) (seen : T → Seen) (count number : ℕ) (planned : List Planned) (old mid : Planted) (asked : IsAsked tells old mid)
    (stands : Told tells (stand old.seen.present.held ≡ Some (tree_of old.seen.present.held))) where
  abbrev label : List ℕ
  label = step_label number count (changes_text planned)

  module _ (added : List Part) (found : Told tells (autobackup (left_in planned) old.db (tree_in old) ≡ Ok added)) (all : AllByRecursion IsOfBackups added) where
    abbrev parts : List Part
    parts = parts_of planned ++ added

    abbrev stepped : (List Object → Volume → Run) → List Object → Volume → Run
    stepped rest db t = stepping db parts label (rest (entries_after parts db) (changed db parts t)) t

    is_stepped : (rest : List Object → Volume → Run) (t : Volume) → autobackup (left_in planned) old.db t ≡ Ok added → plan_step count (number, planned) rest old.db t ≡ stepped rest mid.db t
    is_stepped rest t is =
        ap (λ (r : Result (List Part) BackupError). changing_entries old.db (parts_of planned) (step_adding r (parts_of planned) label rest old.db t)) is
        ∙ stepping-added old.db (parts_of planned) added label rest t all ∙ ap (λ (db : List Object). stepped rest db t) (sym asked.db)

    -- a step that was made
    pub added_continues : (new : Planted) → Steps tells parts label mid new → Continues tells seen (plan_step count (number, planned)) old new
    added_continues new steps = record {
      on = λ rest ending state performs. behind tells seen old mid asked stands (λ t. plan_step count (number, planned) rest old.db t) (stepped rest mid.db) ending state
          (λ t. is_stepped rest (tree_of old.seen.present.held) (found t))
          (performs_stepped tells seen 0 mid.seen no_devices no_devices ending state parts label mid new (λ t. rest (entries_after parts mid.db) t) refl steps
          (subst (λ (db : List Object). Performs tells seen (λ t. rest db t) 0 new.seen no_devices no_devices ending state) steps.db performs));
    }

    -- a step that wasn't
    pub added_acted : (ending : Ending) (state : Result Seen T)
        → ((rest : Volume → Run) → Performs tells seen (λ t. stepping mid.db parts label (rest t) t) 0 mid.seen no_devices no_devices ending state)
        → (rest : List Object → Volume → Run) → Performs tells seen (λ t. plan_step count (number, planned) rest old.db t) 0 old.seen no_devices no_devices ending state
    added_acted ending state acted rest = behind tells seen old mid asked stands (λ t. plan_step count (number, planned) rest old.db t) (stepped rest mid.db) ending state
        (λ t. is_stepped rest (tree_of old.seen.present.held) (found t)) (acted (λ t. rest (entries_after parts mid.db) (changed mid.db parts t)))

  -- a step to which nothing could be added
  pub added_fault : (fault : BackupError) (rest : List Object → Volume → Run) → Told tells (IfSome (refusal_of fault) (λ _. autobackup (left_in planned) old.db (tree_in old) ≡ Err fault))
      → Told tells ((t : Volume) → stand old.seen.present.held ≡ Some t
      → IfSome (refusal_of fault) (λ refusal. step_adding (autobackup (left_in planned) old.db t) (parts_of planned) label rest old.db t ≡ refused refusal))
  added_fault fault rest is told t stood =
      subst (λ (v : Volume). IfSome (refusal_of fault) (λ refusal. step_adding (autobackup (left_in planned) old.db v) (parts_of planned) label rest old.db v ≡ refused refusal))
      (same_tree old.seen t (stands told) stood) (by fault (is told))
    where
      tree : Volume
      tree = tree_of old.seen.present.held

      by : (fault : BackupError) → IfSome (refusal_of fault) (λ _. autobackup (left_in planned) old.db (tree_in old) ≡ Err fault)
          → IfSome (refusal_of fault) (λ refusal. step_adding (autobackup (left_in planned) old.db (tree_in old)) (parts_of planned) label rest old.db (tree_in old) ≡ refused refusal)
      by (faults.NotInstalled n) same = ap (λ (r : Result (List Part) BackupError). step_adding r (parts_of planned) label rest old.db (tree_in old)) same
      by (faults.FileMissing path) same = ap (λ (r : Result (List Part) BackupError). step_adding r (parts_of planned) label rest old.db (tree_in old)) same
      by (faults.TooLarge what limit) same = ap (λ (r : Result (List Part) BackupError). step_adding r (parts_of planned) label rest old.db (tree_in old)) same
      by faults.HostFault same = tt
      by faults.NoMemory same = tt

-- what follows from what there is
pub some_map : {X : Type 0} (o : Option X) (P Q : X → Type 0) → ((x : X) → P x → Q x) → IfSome o P → IfSome o Q
some_map None P Q goes is = tt
some_map (Some x) P Q goes is = goes x is

labelled-faulted : (fault : BackupError) → AreLabelled (faulted fault).events
labelled-faulted (faults.NotInstalled name) = tt
labelled-faulted (faults.FileMissing path) = tt
labelled-faulted (faults.TooLarge what limit) = tt
labelled-faulted faults.HostFault = tt
labelled-faulted faults.NoMemory = tt

-- a step is labelled, and so is what comes behind it
pub labelled-adding : (made : Result (List Part) BackupError) (parts : List Part) (label : List ℕ) (rest : List Object → Volume → Run) (db : List Object) (tree : Volume) → IsLabel label
    → ((next : Volume) → AreLabelled (rest (entries_after parts db) next).events) → AreLabelled (step_adding made parts label rest db tree).events
labelled-adding (Ok added) parts label rest db tree is others = (is, others (changed db (parts ++ added) tree))
labelled-adding (Err fault) parts label rest db tree is others = labelled-faulted fault
