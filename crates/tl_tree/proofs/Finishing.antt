-- How a step ends.
use Rattle.std.proofs.Common.{◌≡◌, true, List, [], ◌∷◌, Option, sym, ◌∙◌, subst}
use Rattle.std.specs.Option.{unwrap_or}
use Rattle.tl_model.specs.Volume.{Volume}
use Rattle.tl_model.specs.Seen.{Seen}
use Rattle.tl_model.specs.Trace.{Event, Step, Trace, Cut}
use Rattle.tl_journal_text.specs.Stand.{stand, tree_of}
use Rattle.tl_journal.specs.States.{staged, coming as staged_with}
use Rattle.tl_entry.specs.declared.object.Object.{Object}
use Rattle.tl_db.specs.Reading.{IsRead}
use Rattle.tl_db.specs.Text.{db_text}
use Rattle.tl_tree.specs.declared.change.Part.{Part}
use Rattle.tl_tree.specs.Planted.{planted, database_text}
use Rattle.tl_tree.specs.Changes.{changed, has_entries, entries_after}
use Rattle.tl_tree.specs.Conditions.{IsChange}
use Rattle.tl_tree.specs.Filled.{filled}
use Rattle.tl_tree.specs.Packages.{ReplacesWhole}
use Rattle.tl_tree.specs.Staged.{next_tree}
use Rattle.tl_tree.specs.Opened.{Opened, given, IsWhole}
use Rattle.tl_tree.specs.Under.{IsPlanned, IsUnderWay}
use Rattle.tl_tree.specs.Answers.{IsStepped, step_of}
use Rattle.tl_tree.proofs.Fillings.{entries-filled, has_entries-filled, change-filled}
use Rattle.tl_tree.proofs.ReadAfter.{read_after}
use Rattle.tl_tree.proofs.Stocks.{replaces}
use Rattle.tl_tree.proofs.Underway.{under_whole}

module _ (step : Opened) (entries : Option (List Object)) (planned : IsPlanned step entries) (under : IsUnderWay step) (is_whole : IsWhole step)
    (staging : Seen) (same : staging ≡ step.seen) (all : staged staging ≡ staged_with (record { seen = step.seen; left = 0 }) []) where
  -- the change with the files that were given
  abbrev parts : List Part
  parts = filled (given step) step.parts

  abbrev tree : Volume
  tree = tree_of step.seen.present.held

  next_is : next_tree staging ≡ changed step.db parts tree
  next_is = under_whole step entries planned under is_whole staging same all

  change_is : IsChange step.db parts step.label
  change_is = change-filled (given step) step.db step.parts step.label planned.change

  after_is : entries_after parts step.db ≡ entries_after step.parts step.db
  after_is = entries-filled (given step) step.parts step.db

  run_is : (R : Seen → Volume → List Event → Type 0) → R staging (tree_of staging.present.held) (Step (next_tree staging) step.label ∷ []) → R step.seen tree (step_of (planted step.seen step.db) parts step.label ∷ [])
  run_is R run = subst (λ (s : Seen). R s (tree_of s.present.held) (Step (changed step.db parts tree) step.label ∷ [])) same
      (subst (λ (v : Volume). R staging (tree_of staging.present.held) (Step v step.label ∷ [])) next_is run)

  -- it was made
  pub finish_stepped : (clean : Seen) (db : List Object) → db ≡ entries_after step.parts step.db → tree_of clean.present.held ≡ next_tree staging
      → Trace stand staging clean (tree_of staging.present.held) (Step (next_tree staging) step.label ∷ []) → IsStepped (planted step.seen step.db) parts step.label (planted clean db)
  finish_stepped clean db is here trace = record {
    tree = here ∙ next_is;
    trace = run_is (λ s v es. Trace stand s clean v es) trace;
    packages = subst (λ (v : Volume). ReplacesWhole step.db parts tree db v) (sym (here ∙ next_is))
        (subst (λ (os : List Object). ReplacesWhole step.db parts tree os (changed step.db parts tree)) (after_is ∙ sym is) (replaces step.db parts step.label change_is tree));
  }

  -- it was cut off
  pub finish_lost : (last : Seen) → Cut stand staging last (tree_of staging.present.held) (Step (next_tree staging) step.label ∷ [])
      → Cut stand step.seen last tree (step_of (planted step.seen step.db) parts step.label ∷ [])
  finish_lost last cut = run_is (λ s v es. Cut stand s last v es) cut

  -- the database reads as the entries after the change
  pub finish_read : (clean : Seen) → tree_of clean.present.held ≡ next_tree staging → IsRead (database_text (tree_of clean.present.held)) (unwrap_or entries step.db)
  finish_read clean here =
      subst (λ (v : Volume). IsRead (database_text v) (unwrap_or entries step.db)) (sym (here ∙ next_is))
      (subst (λ (os : List Object). IsRead (database_text (changed step.db parts tree)) os) (after_is ∙ sym planned.next)
      (read_after step.db parts step.label change_is tree entered under.read))
    where
      entered : has_entries parts ≡ true → IsRead (db_text (entries_after parts step.db)) (entries_after parts step.db)
      entered some = subst (λ (os : List Object). IsRead (db_text os) os) (sym after_is) (planned.read (sym (has_entries-filled (given step) step.parts) ∙ some))
