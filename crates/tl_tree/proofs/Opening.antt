-- How a step begins, and what a call out of place leaves.
use Rattle.std.proofs.Common.{◌≡◌, ◌-◌, ℕ, Bool, true, false, List, [], ◌++◌, Option, refl, sym, ◌∙◌, ap, subst}
use Rattle.std.specs.Prelude.{if◌then◌else◌}
use Rattle.std.specs.Option.{unwrap_or}
use Rattle.std.specs.List.Sorted.{IsPermutation}
use Rattle.std.specs.FinSet as set
use Rattle.std.proofs.lemmas.List.Elements.{All-from_recursion, recursion_from_All}
use Rattle.std.proofs.lemmas.List.Sorted.{All-permutation}
use Rattle.tl_model.specs.Volume.{Name, Names}
use Rattle.tl_model.specs.Seen.{Moment, Seen, Quiet}
use Rattle.tl_model.specs.Pictures.{after_quiet}
use Rattle.tl_journal_text.specs.Records.{is_outside}
use Rattle.tl_journal_text.specs.Slots.{open_slot}
use Rattle.tl_journal_text.specs.Stand.{tree_of, Stays}
use Rattle.tl_journal.specs.States.{IsStaged}
use Rattle.tl_journal.specs.Touching.{only_start, only_quiet}
use Rattle.tl_journal.specs.Spent.{Stages}
use Rattle.tl_journal.proofs.Stagings.{stages_start}
use Rattle.tl_entry.specs.declared.object.Object.{Object}
use Rattle.tl_db.specs.Reading.{IsRead}
use Rattle.tl_db.specs.Text.{db_text}
use Rattle.tl_tree.specs.declared.change.Part.{Part}
use Rattle.tl_tree.specs.declared.error.StepError.{StepError}
use Rattle.tl_tree.specs.declared.error.StepError.TheVariants.{HostFault, NoMemory, TooLarge}
use Rattle.tl_tree.specs.Planted.{planted, database_text}
use Rattle.tl_tree.specs.Staged.{AreOutside, FilesOutside, HasStaged}
use Rattle.tl_tree.specs.Changes.{leaving, later, coming, made, has_entries, entries_after}
use Rattle.tl_tree.specs.Conditions.{IsChange}
use Rattle.tl_tree.specs.Opened.{Opened, begun, over, may_begin, with_file, may_come, with_piece, given}
use Rattle.tl_tree.specs.Under.{IsPlanned, IsUnderWay}
use Rattle.tl_tree.specs.Answers.{IsAllowed, IsPlanError, IsStageError, IsStepError}
use Rattle.tl_tree.proofs.Lookups.{File}
use Rattle.tl_tree.proofs.Spoken.{leaving_outside, written_outside}
use Rattle.tl_tree.proofs.Underway.{under_begins, awaits_begin, begins_given}

-- nothing was done
pub nothing_done : (journal last : Seen) → Stays journal journal → last ≡ journal → Stages journal last
nothing_done journal last stays same = subst (λ (s : Seen). Stages journal s) (sym same) (stages_start journal stays)

-- sizes were asked, and else nothing was done
pub stages_asked : (old new : Seen) → Stays old old → Quiet old new → Stages old new
stages_asked old new stays quiet = record {
  tree = ap (λ (m : Moment). tree_of m.held) quiet.present;
  stays = after_quiet old old new _ stays quiet;
  touches = only_quiet (IsStaged (open_slot old.present.held)) old old new (only_start (IsStaged (open_slot old.present.held)) old) quiet;
  syncs = quiet.syncs;
}

-- a step that wasn't planned, or wasn't staged
pub plan_error : (journal : Seen) (db : List Object) (parts ps : List Part) (fault : StepError) → ps ≡ parts → IsPlanError db ps fault → IsStepError (planted journal db) parts fault
plan_error journal db parts ps HostFault same error = absurd error
plan_error journal db parts ps NoMemory same error = tt
plan_error journal db parts ps (TooLarge what limit) same error = subst (λ (l : List Part). IsStepError (planted journal db) l (TooLarge what limit)) same error

pub stage_error : (journal : Seen) (db : List Object) (parts : List Part) (fault : StepError) → IsAllowed (planted journal db) parts → IsStageError fault → IsStepError (planted journal db) parts fault
stage_error journal db parts HostFault allowed error = allowed
stage_error journal db parts NoMemory allowed error = tt
stage_error journal db parts (TooLarge what limit) allowed error = absurd error

module _ (old : List Object) (parts ps : List Part) (label : List ℕ) (same : ps ≡ parts) (is : IsChange old parts label) (names : List Name) (made_files : List File) (awaits : Names)
    (entries : Option (List Object)) (leaves : names ≡ leaving old ps) (makes : made_files ≡ (if has_entries ps then made (entries_after ps old) else []))
    (nexts : unwrap_or entries old ≡ entries_after ps old) (reads : has_entries ps ≡ true → IsRead (db_text (entries_after ps old)) (entries_after ps old)) (waits : awaits ≡ set.from_list (later ps)) where
  is_here : IsChange old ps label
  is_here = subst (λ (l : List Part). IsChange old l label) (sym same) is

  -- the names that leave may be removed
  pub names_go : AreOutside names
  names_go = subst (λ (l : List Name). AreOutside l) (sym leaves) (leaving_outside old ps label is_here)

  -- the files that come may be written
  pub files_come : FilesOutside (coming ps ++ made_files)
  files_come = subst (λ (l : List File). FilesOutside (coming ps ++ l)) (sym makes) (written_outside old ps label is_here (entries_after ps old))

  reads_here : has_entries parts ≡ true → IsRead (db_text (entries_after parts old)) (entries_after parts old)
  reads_here = subst (λ (l : List Part). has_entries l ≡ true → IsRead (db_text (entries_after l old)) (entries_after l old)) same reads

  pub opened_allowed : (journal : Seen) → IsAllowed (planted journal old) parts
  opened_allowed journal some = let read = reads_here some in (read.2, read.0)

  waits_here : awaits ≡ set.from_list (later parts)
  waits_here = waits ∙ ap (λ (l : List Part). set.from_list (later l)) same

  pub opened_planned : (seen : Seen) (lacks : ℕ) (astray : Bool) → IsPlanned (record { seen = seen; db = old; parts = parts; label = label; awaits = awaits; lacks = lacks; astray = astray }) entries
  opened_planned seen lacks astray = record {
    change = is;
    next = nexts ∙ ap (λ (l : List Part). entries_after l old) same;
    read = reads_here;
    awaits = awaits_begin parts awaits waits_here;
  }

  pub opened_under : (astray : Bool) (first staging : Seen) → IsRead (database_text (tree_of first.present.held)) old → Stages first staging → HasStaged (coming ps ++ made_files) awaits names staging
      → IsUnderWay (record { seen = staging; db = old; parts = parts; label = label; awaits = awaits; lacks = 0; astray = astray })
  opened_under astray first staging read stages all =
      under_begins old parts label awaits astray first staging read stages
      (subst (λ (l : List Part). HasStaged (coming l ++ (if has_entries l then made (entries_after l old) else [])) awaits (leaving old l) staging) same
      (subst (λ (l : List Name). HasStaged (coming ps ++ (if has_entries ps then made (entries_after ps old) else [])) awaits l staging) leaves
      (subst (λ (l : List File). HasStaged (coming ps ++ l) awaits names staging) makes all)))
      waits_here

  pub opened_given : (astray : Bool) (first staging : Seen) → IsRead (database_text (tree_of first.present.held)) old → Stages first staging → HasStaged (coming ps ++ made_files) awaits names staging
      → given (record { seen = staging; db = old; parts = parts; label = label; awaits = awaits; lacks = 0; astray = astray }) ≡ []
  opened_given astray first staging read stages all =
      begins_given old parts label awaits astray first staging read stages
      (subst (λ (l : List Part). HasStaged (coming l ++ (if has_entries l then made (entries_after l old) else [])) awaits (leaving old l) staging) same
      (subst (λ (l : List Name). HasStaged (coming ps ++ (if has_entries ps then made (entries_after ps old) else [])) awaits l staging) leaves
      (subst (λ (l : List File). HasStaged (coming ps ++ l) awaits names staging) makes all)))
      waits_here entries (opened_planned staging 0 astray)

  -- so it is seen as it begins
  pub opened_is : (journal seen : Seen) → record { seen = seen; db = old; parts = parts; label = label; awaits = awaits; lacks = 0; astray = false } ≡ begun (planted journal old) parts label seen
  opened_is journal seen = ap (λ (s : Names). opened_as seen s) waits_here
    where
      opened_as : Seen → Names → Opened
      opened_as seen s = record { seen = seen; db = old; parts = parts; label = label; awaits = s; lacks = 0; astray = false }

-- files in another order may be written too
pub files_moved : (xs ys : List File) → IsPermutation xs ys → FilesOutside xs → FilesOutside ys
files_moved xs ys moved all =
    let P = λ (file : File). is_outside file.0 ≡ true in
    recursion_from_All P ys (All-permutation P xs ys moved (All-from_recursion P xs all))

-- ---- a call out of place

-- it gives no file
pub astray_given : (step : Opened) → given (record step { astray = true }) ≡ given step
unfolding given
astray_given step = refl

pub astray_file : (step next : Opened) (path : Name) (size : ℕ) → next ≡ record step { astray = true } → may_begin path step ≡ false → next ≡ with_file path size (over next.seen step)
astray_file step next path size is none =
    let P : Opened → Type 0 = λ s. s ≡ with_file path size (over s.seen step) in
    subst P (sym is) (sym (ap (λ b. if b then record step { awaits = set.remove step.awaits path; lacks = size } else record step { astray = true }) none))

pub astray_piece : (step next : Opened) (count : ℕ) → next ≡ record step { astray = true } → may_come count step ≡ false → next ≡ with_piece count (over next.seen step)
astray_piece step next count is none =
    let P : Opened → Type 0 = λ s. s ≡ with_piece count (over s.seen step) in
    subst P (sym is) (sym (ap (λ b. if b then record step { lacks = step.lacks - count } else record step { astray = true }) none))

module _ (seen : Seen) (db : List Object) (parts : List Part) (label : List ℕ) (awaits : Names) (lacks : ℕ) (was now : Bool) where
  pub astray_planned : (entries : Option (List Object)) → IsPlanned (record { seen = seen; db = db; parts = parts; label = label; awaits = awaits; lacks = lacks; astray = was }) entries
      → IsPlanned (record { seen = seen; db = db; parts = parts; label = label; awaits = awaits; lacks = lacks; astray = now }) entries
  astray_planned entries planned = record { change = planned.change; next = planned.next; read = planned.read; awaits = planned.awaits }

  pub astray_under : IsUnderWay (record { seen = seen; db = db; parts = parts; label = label; awaits = awaits; lacks = lacks; astray = was })
      → IsUnderWay (record { seen = seen; db = db; parts = parts; label = label; awaits = awaits; lacks = lacks; astray = now })
  astray_under under = record {
    stages = under.stages;
    read = under.read;
    removes = under.removes;
    writes = under.writes;
    files = under.files;
    staged = under.staged;
    moved = under.moved;
    left = under.left;
    apart = under.apart;
    came = under.came;
  }
