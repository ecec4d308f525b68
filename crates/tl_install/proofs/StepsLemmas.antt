-- The steps of a plan, one after the other.
use Rattle.std.proofs.Common.{◌≡◌, ◌<◌, ◌≤◌, ◌+◌, ◌&&◌, ℕ, Bool, true, false, cond, IsTrue, List, [], ◌∷◌, ◌++◌, length, get_or, drop, Option, Some, None, Result, Ok, Err, refl, sym, ◌∙◌, ap, subst, arith}
use Rattle.std.specs.Prelude.{IfSome, filter, not}
use Rattle.std.specs.List.{AllByRecursion}
use Rattle.std.proofs.lemmas.List.{append-nil, drop_more}
use Rattle.std.proofs.lemmas.List.Concat.{flat_map-append}
use Rattle.tl_model.specs.Seen.{Seen, Told}
use Rattle.tl_model.specs.Trace.{Event, Step}
use Rattle.tl_model.specs.Volume.{Name, Volume}
use Rattle.tl_journal_text.specs.Stand.{stand, tree_of}
use Rattle.tl_path.specs.Reserved.{is_reserved}
use Rattle.tl_entry.specs.declared.object.Object.{Object}
use Rattle.tl_db.specs.declared.repo.Repo.{Repo}
use Rattle.tl_tree.specs.Answers.{IsAllowed, IsWithin}
use Rattle.tl_tree.specs.Changes.{changed, entries_after, has_entries, later, later_by, listed, own}
use Rattle.tl_tree.specs.Conditions.{IsChange, spoken_paths, spoken_paths_by}
use Rattle.tl_tree.specs.Filled.{filled}
use Rattle.tl_tree.specs.Planted.{Planted}
use Rattle.tl_tree.specs.Staged.{has_name}
use Rattle.tl_tree.specs.declared.change.Part.{Part}
use Rattle.tl_tree.specs.declared.change.Part.TheVariants as change
use Rattle.tl_tree.proofs.Fillings.{entries-filled, has_entries-filled}
use Rattle.tl_backup.specs.Asked.{IsAsked, tree_in}
use Rattle.tl_backup.specs.Form.{AreOfBackups, IsOfBackups}
use Rattle.tl_backup.specs.declared.error.BackupError.{BackupError}
use Rattle.tl_backup.specs.declared.error.BackupError.TheVariants as faults
use Rattle.tl_backup.proofs.Apart.{all_append}
use Rattle.tl_backup.proofs.Changing.{added_entries, added_speaks, change-added}
use Rattle.tl_backups.specs.Faults.{refusal_of}
use Rattle.tl_command.specs.declared.ending.Ending.{Ending}
use Rattle.tl_command.specs.declared.ending.Ending.TheVariants.{Done, Refused, HostFault, ShelfFault, InputFault, NoMemory}
use Rattle.tl_command.specs.Endings.{Faults, IsCaused, no_devices}
use Rattle.tl_command.specs.Labels.{step_label}
use Rattle.tl_command.specs.Performs.{Performs, last_of}
use Rattle.tl_command.specs.Runs.{Run, changing_entries, followed, leaving_entries, refused}
use Rattle.tl_command.proofs.Databases.{same_tree}
use Rattle.tl_command.proofs.Joins.{advances_fewer, advances_quiet, performs_alone, performs_fewer, performs_join, performs_quiet, performs_same}
use Rattle.tl_command.proofs.Limits.{changing-within}
use Rattle.tl_coming.specs.Made.{made_by, made_parts, stream_of}
use Rattle.tl_coming.specs.Parts.{entry_at}
use Rattle.tl_coming.specs.declared.part.PlanPart.{PlanPart}
use Rattle.tl_coming.specs.declared.part.PlanPart.TheVariants.{Install, Update, Remove}
use Rattle.tl_fill.specs.Filling.{AreLater, FillsStep, beside_shelf, filling, over_containers}
use Rattle.tl_fill.specs.Wanted.{Wanted}
use Rattle.tl_fill.proofs.StepLemmas.{containers_read, told_both}
use Rattle.tl_install.specs.Fetched.{wanted_in}
use Rattle.tl_install.specs.Labels.{coming_texts}
use Rattle.tl_install.specs.Left.{backups_in, left_in}
use Rattle.tl_install.specs.Steps.{CarriesOn, coming_step, step_with}

-- the steps of a plan from one on
pub steps_from : (steps : List (List PlanPart)) (at : ℕ) (step : List PlanPart) → at < length steps → step ≡ get_or steps at step → drop at steps ≡ step ∷ drop (at + 1) steps
steps_from steps at step lt is = drop_more steps at step lt ∙ ap (λ (s : List PlanPart). s ∷ drop (at + 1) steps) (sym is)

-- a fault whose device's count had been smaller before
caused_sooner : (ending : Ending) (first last : Seen) (old mid : ℕ) (after : Faults) → old ≤ mid → IsCaused ending first last (beside_shelf mid) after → IsCaused ending first last (beside_shelf old) after
caused_sooner Done first last old mid after le cause = cause
caused_sooner (Refused refusal) first last old mid after le cause = cause
caused_sooner HostFault first last old mid after le cause = cause
caused_sooner ShelfFault first last old mid after le cause = omega (arith, le, cause)
caused_sooner InputFault first last old mid after le cause = cause
caused_sooner NoMemory first last old mid after le cause = cause

pub performs_sooner : {T : Type 0} (tells : Bool) (seen : T → Seen) (command : Volume → Run) (first : Seen) (old mid : ℕ) (after : Faults) (ending : Ending) (state : Result Seen T) → old ≤ mid
    → Performs tells seen command 0 first (beside_shelf mid) after ending state → Performs tells seen command 0 first (beside_shelf old) after ending state
performs_sooner tells seen command first old mid after ending state le performs = record {
  run = performs.run;
  syncs = performs.syncs;
  later = performs.later;
  cause = caused_sooner ending first (last_of seen state) old mid after le performs.cause;
  words = performs.words;
}

-- a command that is given neither shelf nor input, beside a shelf, as fewer devices tell
pub performs_apart : {T : Type 0} (shelf_tells tells : Bool) (seen : T → Seen) (first : Seen) (before after : Faults) (ending : Ending) (state : Result Seen T) (command : Volume → Run)
    → Performs tells seen command 0 first no_devices no_devices ending state → Performs (shelf_tells && tells) seen command 0 first before after ending state
performs_apart shelf_tells tells seen first before after ending state command performs =
    performs_fewer (shelf_tells && tells) tells (λ t. (told_both shelf_tells tells t).1) seen 0 first before after ending state command
    (performs_alone tells seen 0 first before after ending state command performs)

module _ (shelf_tells tells : Bool) (volumes : List Volume) (all : List Wanted) (parts : List Part) (label : List ℕ) (old next : Planted) (fills : FillsStep shelf_tells tells volumes all parts label old next) where
  -- the entries that a step leaves
  pub filled_db : next.db ≡ entries_after parts old.db
  filled_db = fills.steps.db ∙ entries-filled fills.files parts old.db

  allowed_parts : IsAllowed old parts
  allowed_parts some = subst IsWithin (entries-filled fills.files parts old.db) (fills.steps.allowed (has_entries-filled fills.files parts ∙ some))

  -- a step, and then what is left of the command
  pub performs_filled : {T : Type 0} (seen : T → Seen) (before after : Faults) (ending : Ending) (state : Result Seen T) (rest : Volume → Run) → Performs (shelf_tells && tells) seen rest 0 next.seen before after ending state
      → Performs (shelf_tells && tells) seen (filling volumes all old.db parts label rest) 0 old.seen before after ending state
  performs_filled seen before after ending state rest near =
      let events : Volume → List Event = λ tree. Step (changed old.db (filled fills.files parts) tree) label ∷ [] in
      performs_same (shelf_tells && tells) seen 0 old.seen before after ending state
      (λ tree. followed (events tree) (rest (changed old.db (filled fills.files parts) tree))) (filling volumes all old.db parts label rest)
      (λ t tree stood. sym (filling_is (told_both shelf_tells tells t).0 tree))
      (performs_join (shelf_tells && tells) seen 0 old.seen before after ending state events rest next.seen
      (advances_fewer (shelf_tells && tells) tells (λ t. (told_both shelf_tells tells t).1) events old.seen next.seen fills.steps.made) near)
    where
      filling_is : IsTrue shelf_tells → (tree : Volume)
          → filling volumes all old.db parts label rest tree ≡ followed (Step (changed old.db (filled fills.files parts) tree) label ∷ []) (rest (changed old.db (filled fills.files parts) tree))
      filling_is t tree =
          let go : List (Name × List ℕ) → Run = λ fs. followed (Step (changed old.db (filled fs parts) tree) label ∷ []) (rest (changed old.db (filled fs parts) tree)) in
          changing-within old.db parts (over_containers volumes all go []) allowed_parts ∙ containers_read shelf_tells volumes all go [] fills.files t fills.fetched

-- ---- a step with what is added to it

-- what is added leaves the entries, so the limits of a step are those without it
changing-added : (db : List Object) (parts added : List Part) (run : Run) → AllByRecursion IsOfBackups added → changing_entries db parts run ≡ changing_entries db (parts ++ added) run
changing-added db parts added run all =
    ap (λ (os : List Object). cond (has_entries parts) (leaving_entries os run) run) (sym (added_entries parts added db all))
    ∙ ap (λ (b : Bool). cond b (leaving_entries (entries_after (parts ++ added) db) run) run) (sym (added_speaks parts added all))

none_later : (part : Part) → IsOfBackups part → later_by part ≡ []
none_later (change.Put entry files) is = absurd is
none_later (change.Remove name) is = absurd is
none_later (change.Entry entry) is = absurd is
none_later (change.Write path bytes) is = refl
none_later (change.Erase path) is = refl
none_later (change.Stream entry) is = absurd is
none_later (change.Later paths) is = absurd is

nothing_later : (added : List Part) → AllByRecursion IsOfBackups added → later added ≡ []
nothing_later [] all = refl
nothing_later (part ∷ added) all = ap (λ (l : List Name). l ++ later added) (none_later part all.0) ∙ nothing_later added all.1

-- the same bytes come later
later-added : (parts added : List Part) → AllByRecursion IsOfBackups added → later (parts ++ added) ≡ later parts
later-added parts added all = flat_map-append later_by parts added ∙ ap (λ (l : List Name). later parts ++ l) (nothing_later added all) ∙ append-nil (later parts)

pub are_later-added : (parts added : List Part) (all : List Wanted) → AllByRecursion IsOfBackups added → AreLater parts all → AreLater (parts ++ added) all
are_later-added parts added all backups are = record {
  apart = are.apart;
  same = λ path. are.same path ∙ ap (has_name path) (sym (later-added parts added backups));
}

free_owns : (entry : Object) → AllByRecursion (λ path. is_reserved path ≡ false) (own entry)
free_owns entry = free_of (listed entry)
  where
    free_of : (paths : List Name) → AllByRecursion (λ path. is_reserved path ≡ false) (filter (λ path. not (is_reserved path)) paths)
    free_of [] = tt
    free_of (path ∷ paths) = by (is_reserved path) refl (free_of paths)
      where
        by : (b : Bool) → is_reserved path ≡ b → AllByRecursion (λ p. is_reserved p ≡ false) (filter (λ p. not (is_reserved p)) paths)
            → AllByRecursion (λ p. is_reserved p ≡ false) (cond (not b) (path ∷ filter (λ p. not (is_reserved p)) paths) (filter (λ p. not (is_reserved p)) paths))
        by true is rest = rest
        by false is rest = (is, rest)

free_stream : (found : Option Object) → AllByRecursion (λ path. is_reserved path ≡ false) (spoken_paths (stream_of found))
free_stream None = tt
free_stream (Some entry) = all_append (λ path. is_reserved path ≡ false) (own entry) [] (free_owns entry) tt

module _ (repos : List Repo) where
  free_part : (part : PlanPart) → AllByRecursion (λ path. is_reserved path ≡ false) (spoken_paths (made_by repos part))
  free_part (Install name repo) = free_stream (entry_at repos repo name)
  free_part (Update name repo) = free_stream (entry_at repos repo name)
  free_part (Remove name) = tt

  free_step : (step : List PlanPart) → AllByRecursion (λ path. is_reserved path ≡ false) (spoken_paths (made_parts repos step))
  free_step [] = tt
  free_step (part ∷ step) =
      subst (AllByRecursion (λ path. is_reserved path ≡ false)) (sym (flat_map-append spoken_paths_by (made_by repos part) (made_parts repos step)))
      (all_append (λ path. is_reserved path ≡ false) (spoken_paths (made_by repos part)) (spoken_paths (made_parts repos step)) (free_part part) (free_step step))

  -- a step with which backups are made and erased is a change
  pub change-coming : (db : List Object) (step : List PlanPart) (added : List Part) (label : List ℕ) → IsChange db (made_parts repos step) label → AreOfBackups added → IsChange db (made_parts repos step ++ added) label
  change-coming db step added label is backups = change-added db (made_parts repos step) added label is (free_step step) backups

module _ {T : Type 0} (shelf_tells tells : Bool) (seen : T → Seen) (volumes : List Volume) (repos : List Repo) (number count : ℕ) (step : List PlanPart) (old mid : Planted) (asked : IsAsked tells old mid)
    (stands : Told tells (stand old.seen.present.held ≡ Some (tree_of old.seen.present.held))) where
  abbrev both : Bool
  both = shelf_tells && tells

  abbrev parts : List Part
  parts = made_parts repos step

  abbrev wanted : List Wanted
  wanted = wanted_in repos step

  abbrev label : List ℕ
  label = step_label number count (coming_texts repos step)

  module _ (added : List Part) (found : Told tells (backups_in (left_in repos step) old.db (tree_in old) ≡ Ok added)) (all : AllByRecursion IsOfBackups added) where
    is_filled : (rest : List Object → Volume → Run) (t : Volume) → backups_in (left_in repos step) old.db t ≡ Ok added
        → filling volumes wanted mid.db (parts ++ added) label (rest (entries_after parts old.db)) t ≡ coming_step volumes repos number count step rest old.db t
    is_filled rest t is =
        ap (λ (db : List Object). filling volumes wanted db (parts ++ added) label (rest (entries_after parts old.db)) t) asked.db
        ∙ sym (changing-added old.db parts added (step_with volumes wanted (Ok added) parts label rest old.db t) all)
        ∙ sym (ap (λ (r : Result (List Part) BackupError). changing_entries old.db parts (step_with volumes wanted r parts label rest old.db t)) is)

    behind_asked : (rest : List Object → Volume → Run) (before after : Faults) (ending : Ending) (state : Result Seen T)
        → Performs both seen (filling volumes wanted mid.db (parts ++ added) label (rest (entries_after parts old.db))) 0 mid.seen before after ending state
        → Performs both seen (λ t. coming_step volumes repos number count step rest old.db t) 0 old.seen before after ending state
    behind_asked rest before after ending state near =
        let fill = filling volumes wanted mid.db (parts ++ added) label (rest (entries_after parts old.db)) in
        performs_same both seen 0 old.seen before after ending state fill (λ t. coming_step volumes repos number count step rest old.db t)
        (λ t tree stood.
        let host = (told_both shelf_tells tells t).1 in
        subst (λ (v : Volume). fill v ≡ coming_step volumes repos number count step rest old.db v) (same_tree old.seen tree (stands host) stood) (is_filled rest (tree_in old) (found host)))
        (performs_quiet both seen 0 old.seen before after ending state fill mid.seen
        (advances_fewer both tells (λ t. (told_both shelf_tells tells t).1) (λ _. []) old.seen mid.seen (advances_quiet tells old.seen mid.seen asked.quiet asked.later)) near)

    -- the entries behind a step that was made
    pub made_db : (next : Planted) → FillsStep shelf_tells tells volumes wanted (parts ++ added) label mid next → next.db ≡ entries_after parts old.db
    made_db next fills =
        filled_db shelf_tells tells volumes wanted (parts ++ added) label mid next fills ∙ added_entries parts added mid.db all ∙ ap (entries_after parts) asked.db

    -- a step that was made
    pub made_continues : (next : Planted) → FillsStep shelf_tells tells volumes wanted (parts ++ added) label mid next → CarriesOn both seen (coming_step volumes repos number count step) old next
    made_continues next fills = record {
      on = λ rest before after ending state performs.
          behind_asked rest before after ending state
          (performs_filled shelf_tells tells volumes wanted (parts ++ added) label mid next fills seen before after ending state (rest (entries_after parts old.db))
          (subst (λ (db : List Object). Performs both seen (λ t. rest db t) 0 next.seen before after ending state) (made_db next fills) performs));
    }

    -- a step that wasn't
    pub made_acted : (before after : Faults) (ending : Ending) (state : Result Seen T)
        → ((rest : Volume → Run) → Performs both seen (filling volumes wanted mid.db (parts ++ added) label rest) 0 mid.seen before after ending state)
        → (rest : List Object → Volume → Run) → Performs both seen (λ t. coming_step volumes repos number count step rest old.db t) 0 old.seen before after ending state
    made_acted before after ending state acted rest = behind_asked rest before after ending state (acted (rest (entries_after parts old.db)))

  -- a step whose backups have a fault
  pub made_fault : (fault : BackupError) (rest : List Object → Volume → Run) → Told tells (IfSome (refusal_of fault) (λ _. backups_in (left_in repos step) old.db (tree_in old) ≡ Err fault))
      → Told tells ((t : Volume) → stand old.seen.present.held ≡ Some t
      → IfSome (refusal_of fault) (λ refusal. step_with volumes wanted (backups_in (left_in repos step) old.db t) parts label rest old.db t ≡ refused refusal))
  made_fault fault rest is told t stood =
      subst (λ (v : Volume). IfSome (refusal_of fault) (λ refusal. step_with volumes wanted (backups_in (left_in repos step) old.db v) parts label rest old.db v ≡ refused refusal))
      (same_tree old.seen t (stands told) stood) (by fault (is told))
    where
      by : (fault : BackupError) → IfSome (refusal_of fault) (λ _. backups_in (left_in repos step) old.db (tree_in old) ≡ Err fault)
          → IfSome (refusal_of fault) (λ refusal. step_with volumes wanted (backups_in (left_in repos step) old.db (tree_in old)) parts label rest old.db (tree_in old) ≡ refused refusal)
      by (faults.NotInstalled n) same = ap (λ (r : Result (List Part) BackupError). step_with volumes wanted r parts label rest old.db (tree_in old)) same
      by (faults.FileMissing path) same = ap (λ (r : Result (List Part) BackupError). step_with volumes wanted r parts label rest old.db (tree_in old)) same
      by (faults.TooLarge what limit) same = ap (λ (r : Result (List Part) BackupError). step_with volumes wanted r parts label rest old.db (tree_in old)) same
      by faults.HostFault same = tt
      by faults.NoMemory same = tt
