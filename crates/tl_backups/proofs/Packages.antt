-- Packages that are backed up, and what keeps one from it.
use Rattle.std.proofs.Common.{◌≡◌, ◌<◌, ◌+◌, ◌^◌, ℕ, Bool, true, false, cond, List, [], ◌∷◌, ◌++◌, length, drop, get_or, Option, Some, None, Result, Ok, Err, refl, sym, ap, subst, ◌∙◌, arith}
use Rattle.std.specs.Prelude.{codes, not, IfSome}
use Rattle.std.specs.List.{enumerate_from}
use Rattle.std.proofs.lemmas.List.{drop_more}
use Rattle.std.proofs.lemmas.List.FromFn.{length-enumerate_from, get_or-enumerate_from}
use Rattle.tl_model.specs.Acks.{IsLabel}
use Rattle.tl_model.specs.Decimal.{decimal_text}
use Rattle.tl_model.specs.Lines.{IsLine}
use Rattle.tl_model.specs.Seen.{Seen, Told}
use Rattle.tl_model.specs.Volume.{Name, Volume}
use Rattle.tl_journal_text.specs.Stand.{stand, tree_of}
use Rattle.tl_path.specs.Names.{is_name}
use Rattle.tl_entry.specs.declared.object.Object.{Object}
use Rattle.tl_object.proofs.PlainLemmas.{line_append, line_of_number, line_tested}
use Rattle.tl_tree.specs.Changes.{entries_after, changed}
use Rattle.tl_tree.specs.Conditions.{IsChange, has_later}
use Rattle.tl_tree.specs.Planted.{Planted}
use Rattle.tl_tree.specs.declared.change.Part.{Part}
use Rattle.tl_tree.proofs.Distinct.{once-cons, once-nil}
use Rattle.tl_refusal.proofs.Plain.{line_of_name}
use Rattle.tl_backup.specs.Asked.{IsAsked, tree_in}
use Rattle.tl_backup.specs.Autobackup.{revision_at}
use Rattle.tl_backup.specs.Files.{backup_path}
use Rattle.tl_backup.specs.Form.{AreOfBackups}
use Rattle.tl_backup.specs.Frames.{IsBackupPart, package_backup}
use Rattle.tl_backup.specs.declared.error.BackupError.{BackupError}
use Rattle.tl_backup.specs.declared.error.BackupError.TheVariants as faults
use Rattle.tl_backup.proofs.Changing.{added_later, change-added}
use Rattle.tl_backup.proofs.Making.{drop_one}
use Rattle.tl_command.specs.declared.ending.Ending.{Ending}
use Rattle.tl_command.specs.Endings.{no_devices}
use Rattle.tl_command.specs.Labels.{step_label}
use Rattle.tl_command.specs.Loaded.{Steps}
use Rattle.tl_command.specs.Performs.{Performs}
use Rattle.tl_command.specs.Runs.{Run, refused, stepping}
use Rattle.tl_command.specs.Steps.{running}
use Rattle.tl_command.proofs.Databases.{same_tree}
use Rattle.tl_command.proofs.Joins.{performs_stepped}
use Rattle.tl_backups.specs.Backing.{IsChecked, nothing_left, backup_step, backup_text, fault_or, fault_among, is_own_name, open_names, step_with, unless_fault}
use Rattle.tl_backups.specs.Continuing.{Continues}
use Rattle.tl_backups.specs.Faults.{refusal_of}
use Rattle.tl_backups.proofs.Continuing.{behind}

-- the names of one more package
pub open_more : (entry : Object) (db : List Object) → open_names (entry ∷ db) ≡ open_names (entry ∷ []) ++ open_names db
open_more entry db = by (not (is_own_name entry.name))
  where
    by : (kept : Bool) → cond kept (entry.name ∷ open_names db) (open_names db) ≡ cond kept (entry.name ∷ []) [] ++ open_names db
    by true = refl
    by false = refl

-- what a package is backed up as is one line
pub line_of_backup : (name : Name) (revision : ℕ) → is_name name ≡ true → revision < 2 ^ 64 → IsLine (backup_text name revision)
line_of_backup name revision is small =
    line_append (codes "backup ") (name ++ (codes " r" ++ decimal_text revision)) (line_tested (codes "backup ") refl)
    (line_append name (codes " r" ++ decimal_text revision) (line_of_name name is) (line_append (codes " r") (decimal_text revision) (line_tested (codes " r") refl) (line_of_number revision small)))

-- a package without the fault
pub fault_on : (fault : Name → Option BackupError) (names : List Name) (i : ℕ) (d : Name) → i < length names → fault (get_or names i d) ≡ None → fault_among fault (drop i names) ≡ fault_among fault (drop (i + 1) names)
fault_on fault names i d within none = ap (fault_among fault) (drop_one names i d within) ∙ ap (λ (o : Option BackupError). fault_or o (fault_among fault (drop (i + 1) names))) none

-- a fault that was found is refused
pub checked_refused : (fault : BackupError) (given : Option BackupError) (run : Run) → IsChecked {X = Unit {0}} (Err fault) given → IfSome (refusal_of fault) (λ refusal. unless_fault given run ≡ refused refusal)
checked_refused (faults.NotInstalled name) given run is = ap (λ (o : Option BackupError). unless_fault o run) is
checked_refused (faults.FileMissing path) given run is = ap (λ (o : Option BackupError). unless_fault o run) is
checked_refused (faults.TooLarge what limit) given run is = ap (λ (o : Option BackupError). unless_fault o run) is
checked_refused faults.HostFault given run is = tt
checked_refused faults.NoMemory given run is = tt

-- ---- the step of a package

no_change : (db : List Object) (label : List ℕ) → IsLabel label → IsChange db [] label
no_change db label is_label = record {
  names = once-nil;
  paths = once-nil;
  puts = tt;
  keeps = tt;
  beside = tt;
  label = is_label;
}

one_backup : (name : Name) (db : List Object) (part : Part) → IsBackupPart name db part → AreOfBackups (part ∷ [])
one_backup name db part one =
    let path : Name = backup_path one.entry.name one.entry.revision in
    subst (λ (p : Part). AreOfBackups (p ∷ [])) (sym one.is) (record { each = ((drop 14 path, refl), tt); apart = once-cons path [] refl once-nil })

pub change-backup : (name : Name) (db : List Object) (part : Part) (made : List Part) (label : List ℕ) → IsBackupPart name db part → made ≡ part ∷ [] → IsLabel label → IsChange db made label
change-backup name db part made label one is is_label = subst (λ (ps : List Part). IsChange db ps label) (sym is) (change-added db [] (part ∷ []) label (no_change db label is_label) tt (one_backup name db part one))

pub backup-whole : (name : Name) (db : List Object) (part : Part) (made : List Part) → IsBackupPart name db part → made ≡ part ∷ [] → has_later made ≡ false
backup-whole name db part made one is = ap has_later is ∙ added_later [] (part ∷ []) (one_backup name db part one).each refl

module _ {T : Type 0} (tells : Bool) (seen : T → Seen) (count number : ℕ) (name : Name) (old mid : Planted) (asked : IsAsked tells old mid)
    (stands : Told tells (stand old.seen.present.held ≡ Some (tree_of old.seen.present.held))) where
  abbrev label_in : List Object → List ℕ
  label_in db = step_label number count (backup_text name (revision_at db name))

  module _ (part : Part) (found : Told tells (package_backup name old.db (tree_in old) ≡ Ok part)) where
    abbrev stepped : (List Object → Volume → Run) → List Object → Volume → Run
    stepped rest db t = stepping db (part ∷ []) (label_in db) (rest (entries_after (part ∷ []) db) (changed db (part ∷ []) t)) t

    is_stepped : (rest : List Object → Volume → Run) (t : Volume) → package_backup name old.db t ≡ Ok part → backup_step count (number, name) rest old.db t ≡ stepped rest mid.db t
    is_stepped rest t is = ap (λ (r : Result Part BackupError). step_with (label_in old.db) r rest old.db t) is ∙ ap (λ (db : List Object). stepped rest db t) (sym asked.db)

    -- a step that was made
    pub one_continues : (new : Planted) → Steps tells (part ∷ []) (label_in mid.db) mid new → Continues tells seen (backup_step count (number, name)) old new
    one_continues new steps = record {
      on = λ rest ending state performs. behind tells seen old mid asked stands (λ t. backup_step count (number, name) rest old.db t) (stepped rest mid.db) ending state
          (λ t. is_stepped rest (tree_of old.seen.present.held) (found t))
          (performs_stepped tells seen 0 mid.seen no_devices no_devices ending state (part ∷ []) (label_in mid.db) mid new (λ t. rest (entries_after (part ∷ []) mid.db) t) refl steps
          (subst (λ (db : List Object). Performs tells seen (λ t. rest db t) 0 new.seen no_devices no_devices ending state) steps.db performs));
    }

    -- a step that wasn't
    pub one_acted : (ending : Ending) (state : Result Seen T)
        → ((rest : Volume → Run) → Performs tells seen (λ t. stepping mid.db (part ∷ []) (label_in mid.db) (rest t) t) 0 mid.seen no_devices no_devices ending state)
        → (rest : List Object → Volume → Run) → Performs tells seen (λ t. backup_step count (number, name) rest old.db t) 0 old.seen no_devices no_devices ending state
    one_acted ending state acted rest = behind tells seen old mid asked stands (λ t. backup_step count (number, name) rest old.db t) (stepped rest mid.db) ending state
        (λ t. is_stepped rest (tree_of old.seen.present.held) (found t)) (acted (λ t. rest (entries_after (part ∷ []) mid.db) (changed mid.db (part ∷ []) t)))

  -- a step without its backup
  pub one_fault : (fault : BackupError) (rest : List Object → Volume → Run) → Told tells (IfSome (refusal_of fault) (λ _. package_backup name old.db (tree_in old) ≡ Err fault))
      → Told tells ((t : Volume) → stand old.seen.present.held ≡ Some t → IfSome (refusal_of fault) (λ refusal. backup_step count (number, name) rest old.db t ≡ refused refusal))
  one_fault fault rest is told t stood =
      subst (λ (v : Volume). IfSome (refusal_of fault) (λ refusal. backup_step count (number, name) rest old.db v ≡ refused refusal)) (same_tree old.seen t (stands told) stood) (by fault (is told))
    where
      tree : Volume
      tree = tree_of old.seen.present.held

      by : (fault : BackupError) → IfSome (refusal_of fault) (λ _. package_backup name old.db tree ≡ Err fault) → IfSome (refusal_of fault) (λ refusal. backup_step count (number, name) rest old.db tree ≡ refused refusal)
      by (faults.NotInstalled n) same = ap (λ (r : Result Part BackupError). step_with (label_in old.db) r rest old.db tree) same
      by (faults.FileMissing path) same = ap (λ (r : Result Part BackupError). step_with (label_in old.db) r rest old.db tree) same
      by (faults.TooLarge what limit) same = ap (λ (r : Result Part BackupError). step_with (label_in old.db) r rest old.db tree) same
      by faults.HostFault same = tt
      by faults.NoMemory same = tt

-- ---- one package after another

left_at : (names : List Name) (at : ℕ) (name : Name) → at < length names → name ≡ get_or names at name → drop at (enumerate_from 1 names) ≡ (at + 1, name) ∷ drop (at + 1) (enumerate_from 1 names)
left_at names at name lt is =
    drop_more (enumerate_from 1 names) at (0, name) (omega (arith, lt, length-enumerate_from 1 names))
    ∙ ap (λ (item : ℕ × Name). item ∷ drop (at + 1) (enumerate_from 1 names))
    (get_or-enumerate_from 1 names at (0, name) lt ∙ ap (λ n. (n, get_or names at name)) (omega arith) ∙ ap (λ (n : Name). (at + 1, n)) (sym is))

module _ {T : Type 0} (tells : Bool) (seen : T → Seen) (count : ℕ) (names : List Name) (at : ℕ) (name : Name) (lt : at < length names) (is : name ≡ get_or names at name)
    (old : Planted) (ending : Ending) (state : Result Seen T) where
  pub name_made : (new : Planted) → Continues tells seen (backup_step count (at + 1, name)) old new
      → Performs tells seen (λ t. running (backup_step count) (drop (at + 1) (enumerate_from 1 names)) nothing_left new.db t) 0 new.seen no_devices no_devices ending state
      → Performs tells seen (λ t. running (backup_step count) (drop at (enumerate_from 1 names)) nothing_left old.db t) 0 old.seen no_devices no_devices ending state
  name_made new made performs =
      let items = drop (at + 1) (enumerate_from 1 names) in
      subst (λ (all : List (ℕ × Name)). Performs tells seen (λ t. running (backup_step count) all nothing_left old.db t) 0 old.seen no_devices no_devices ending state) (sym (left_at names at name lt is))
      (made.on (running (backup_step count) items nothing_left) ending state performs)

  pub name_ended : ((rest : List Object → Volume → Run) → Performs tells seen (λ t. backup_step count (at + 1, name) rest old.db t) 0 old.seen no_devices no_devices ending state)
      → Performs tells seen (λ t. running (backup_step count) (drop at (enumerate_from 1 names)) nothing_left old.db t) 0 old.seen no_devices no_devices ending state
  name_ended acted =
      let items = drop (at + 1) (enumerate_from 1 names) in
      subst (λ (all : List (ℕ × Name)). Performs tells seen (λ t. running (backup_step count) all nothing_left old.db t) 0 old.seen no_devices no_devices ending state) (sym (left_at names at name lt is))
      (acted (running (backup_step count) items nothing_left))
