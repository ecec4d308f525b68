-- How the parts of a command make the whole.
use Rattle.std.proofs.Common.{◌≡◌, ◌≤◌, ◌+◌, ◌*◌, ℕ, Bool, List, [], ◌∷◌, ◌++◌, Result, Ok, Err, Some, IsTrue, sym, ◌∙◌, ap, subst, arith}
use Rattle.tl_model.specs.Volume.{Volume}
use Rattle.tl_model.specs.Causes.{Rose}
use Rattle.tl_model.specs.Seen.{Seen, Told, Quiet}
use Rattle.tl_model.specs.Trace.{Event, Step, steps_of, tree_after, Trace, Cut, Paused}
use Rattle.tl_model.specs.Joins.{steps_of-append, trace_start, trace_quiet, trace_join, trace_paused, paused_longer, paused_join, cut_join, cut_longer}
use Rattle.tl_journal_text.specs.Stand.{stand}
use Rattle.tl_entry.specs.declared.object.Object.{Object}
use Rattle.tl_tree.specs.Planted.{Planted, database_text}
use Rattle.tl_tree.specs.Changes.{changed}
use Rattle.tl_tree.specs.declared.change.Part.{Part}
use Rattle.tl_db.specs.Text.{db_text}
use Rattle.tl_command.specs.declared.ending.Ending.{Ending}
use Rattle.tl_command.specs.declared.ending.Ending.TheVariants.{Done, Refused, HostFault, ShelfFault, InputFault, NoMemory}
use Rattle.tl_command.specs.Endings.{Faults, no_devices, IsCaused, spare_syncs}
use Rattle.tl_command.specs.Runs.{Run, followed, saying, over_database, stepping}
use Rattle.tl_command.specs.Performs.{IsRested, IsFailed, IsActed, last_of, Performs, Advances}
use Rattle.tl_command.specs.Loaded.{Loads, Rewrites, Steps}
use Rattle.tl_command.proofs.Limits.{over-read, changing-within}

-- a whole run in front of another

rested_join : (events : List Event) (run : Run) (ending : Ending) (first mid last : Seen) (tree : Volume) → Trace stand first mid tree events → IsRested run ending mid last (tree_after events tree)
    → IsRested (followed events run) ending first last tree
rested_join events run Done first mid last tree far near = (near.0, trace_join stand first mid last tree events run.events far near.1)
rested_join events run (Refused refusal) first mid last tree far near = (near.0, trace_join stand first mid last tree events run.events far near.1)
rested_join events run HostFault first mid last tree far near = near
rested_join events run ShelfFault first mid last tree far near = paused_join stand first mid last tree events run.events far near
rested_join events run InputFault first mid last tree far near = paused_join stand first mid last tree events run.events far near
rested_join events run NoMemory first mid last tree far near = paused_join stand first mid last tree events run.events far near

failed_join : (events : List Event) (run : Run) (ending : Ending) (first mid last : Seen) (tree : Volume) → Trace stand first mid tree events → IsFailed run ending mid last (tree_after events tree)
    → IsFailed (followed events run) ending first last tree
failed_join events run Done first mid last tree far near = near
failed_join events run (Refused refusal) first mid last tree far near = near
failed_join events run HostFault first mid last tree far near = cut_join stand first mid last tree events run.events far near
failed_join events run ShelfFault first mid last tree far near = near
failed_join events run InputFault first mid last tree far near = near
failed_join events run NoMemory first mid last tree far near = near

pub acted_join : {T : Type 0} (seen : T → Seen) (events : List Event) (run : Run) (ending : Ending) (state : Result Seen T) (first mid : Seen) (tree : Volume) → Trace stand first mid tree events
    → IsActed seen run ending state mid (tree_after events tree) → IsActed seen (followed events run) ending state first tree
acted_join seen events run ending (Ok last) first mid tree far near = rested_join events run ending first mid last tree far near
acted_join seen events run ending (Err host) first mid tree far near = failed_join events run ending first mid (seen host) tree far near

pub caused_join : (ending : Ending) (first mid last : Seen) (before after : Faults) → first.faults ≤ mid.faults → IsCaused ending mid last before after → IsCaused ending first last before after
caused_join Done first mid last before after le cause = cause
caused_join (Refused refusal) first mid last before after le cause = cause
caused_join HostFault first mid last before after le cause = omega (arith, le, cause)
caused_join ShelfFault first mid last before after le cause = cause
caused_join InputFault first mid last before after le cause = cause
caused_join NoMemory first mid last before after le cause = cause

-- the same state by another name
pub performs_of : {T : Type 0} (tells : Bool) (seen : T → Seen) (command : Volume → Run) (old new : Seen) (ending : Ending) (state : Result Seen T) → old ≡ new
    → Performs tells seen command 0 old no_devices no_devices ending state → Performs tells seen command 0 new no_devices no_devices ending state
performs_of tells seen command old new ending state is performs = subst (λ (s : Seen). Performs tells seen command 0 s no_devices no_devices ending state) is performs

-- nothing has been done yet
pub advances_start : (tells : Bool) (first : Seen) → Advances tells (λ _. []) first first
advances_start tells first = record {
  trace = λ t tree stood. trace_start stand first tree stood;
  syncs = λ t tree stood. omega arith;
  later = omega arith;
}

-- calls that change nothing
pub advances_quiet : (tells : Bool) (first last : Seen) → Told tells (Quiet first last) → first.faults ≤ last.faults → Advances tells (λ _. []) first last
advances_quiet tells first last quiet later = record {
  trace = λ t tree stood. trace_quiet stand first first last tree [] (trace_start stand first tree stood) (quiet t);
  syncs = λ t tree stood. let same : last.syncs ≡ first.syncs = (quiet t).syncs in omega (arith, same);
  later = later;
}

-- some events, and then others
pub advances_join : (tells : Bool) (es fs : Volume → List Event) (first mid last : Seen) → Advances tells es first mid → Advances tells fs mid last
    → Advances tells (λ tree. es tree ++ fs (tree_after (es tree) tree)) first last
advances_join tells es fs first mid last far near = record {
  trace = λ t tree stood. trace_join stand first mid last tree (es tree) (fs (tree_after (es tree) tree)) (far.trace t tree stood)
      (near.trace t (tree_after (es tree) tree) (far.trace t tree stood).stands);
  syncs = λ t tree stood. omega (arith, steps_of-append (es tree) (fs (tree_after (es tree) tree)), far.syncs t tree stood, near.syncs t (tree_after (es tree) tree) (far.trace t tree stood).stands);
  later = omega (arith, far.later, near.later);
}

module _ {T : Type 0} (tells : Bool) (seen : T → Seen) (more : ℕ) (first : Seen) (before after : Faults) (ending : Ending) (state : Result Seen T) where
  -- some events, and then what is left of the command
  pub performs_join : (events : Volume → List Event) (command : Volume → Run) (mid : Seen) → Advances tells events first mid → Performs tells seen command more mid before after ending state
      → Performs tells seen (λ tree. followed (events tree) (command (tree_after (events tree) tree))) more first before after ending state
  performs_join events command mid far near = record {
    run = λ t tree stood. acted_join seen (events tree) (command (tree_after (events tree) tree)) ending state first mid tree (far.trace t tree stood)
        (near.run t (tree_after (events tree) tree) (far.trace t tree stood).stands);
    syncs = λ t tree stood. omega (arith, steps_of-append (events tree) (command (tree_after (events tree) tree)).events, far.syncs t tree stood, near.syncs t (tree_after (events tree) tree) (far.trace t tree stood).stands);
    later = omega (arith, far.later, near.later);
    cause = caused_join ending first mid (last_of seen state) before after far.later near.cause;
    words = near.words;
  }

  -- calls that change nothing in front of a command
  pub performs_quiet : (command : Volume → Run) (mid : Seen) → Advances tells (λ _. []) first mid → Performs tells seen command more mid before after ending state
      → Performs tells seen command more first before after ending state
  performs_quiet command mid far near = performs_join (λ _. []) command mid far near

  -- a command that is another one over the tree that the state stands for
  pub performs_same : (old new : Volume → Run) → Told tells ((tree : Volume) → stand first.present.held ≡ Some tree → old tree ≡ new tree) → Performs tells seen old more first before after ending state
      → Performs tells seen new more first before after ending state
  performs_same old new same performs = record {
    run = λ t tree stood. subst (λ (r : Run). IsActed seen r ending state first tree) (same t tree stood) (performs.run t tree stood);
    syncs = λ t tree stood. subst (λ (r : Run). (last_of seen state).syncs ≤ first.syncs + (2 * steps_of r.events + (more + spare_syncs ending))) (same t tree stood) (performs.syncs t tree stood);
    later = performs.later;
    cause = performs.cause;
    words = performs.words;
  }

  -- a command over the entries of a tree that was loaded
  pub performs_loaded : (loaded : Planted) (go : Volume → List Object → Run) → Loads tells first loaded → Performs tells seen (λ tree. go tree loaded.db) more loaded.seen before after ending state
      → Performs tells seen (λ tree. over_database (go tree) (database_text tree)) more first before after ending state
  performs_loaded loaded go loads near = performs_same (λ tree. go tree loaded.db) (λ tree. over_database (go tree) (database_text tree))
      (λ t tree stood. sym (over-read (go tree) (database_text tree) loaded.db (loads.reads t tree stood))) (performs_quiet (λ tree. go tree loaded.db) loaded.seen loads.quiet near)

  -- a command that says the canonical text of the database
  pub performs_rewritten : (mid : Seen) (text : List ℕ) → Rewrites tells first mid text → Performs tells seen (λ _. saying text) more mid before after ending state
      → Performs tells seen (λ tree. over_database (λ entries. saying (db_text entries)) (database_text tree)) more first before after ending state
  performs_rewritten mid text rewrites near = performs_same (λ _. saying text) (λ tree. over_database (λ entries. saying (db_text entries)) (database_text tree))
      (λ t tree stood.
      let read = rewrites.text t tree stood in
      ap saying read.1.1 ∙ sym (over-read (λ entries. saying (db_text entries)) (database_text tree) read.0 read.1.0))
      (performs_quiet (λ _. saying text) mid rewrites.quiet near)

  -- a step, and then what is left of the command
  pub performs_stepped : (parts : List Part) (label : List ℕ) (old new : Planted) (rest : Volume → Run) → first ≡ old.seen → Steps tells parts label old new → Performs tells seen rest more new.seen before after ending state
      → Performs tells seen (λ tree. stepping old.db parts label (rest (changed old.db parts tree)) tree) more first before after ending state
  performs_stepped parts label old new rest is steps near =
      let events : Volume → List Event = λ tree. Step (changed old.db parts tree) label ∷ [] in
      performs_same (λ tree. followed (events tree) (rest (changed old.db parts tree))) (λ tree. stepping old.db parts label (rest (changed old.db parts tree)) tree)
      (λ t tree stood. sym (changing-within old.db parts (followed (events tree) (rest (changed old.db parts tree))) steps.allowed))
      (performs_join events rest new.seen (subst (λ (s : Seen). Advances tells events s new.seen) (sym is) steps.made) near)

caused_anyhow : (ending : Ending) (first last : Seen) (before after : Faults) → IsCaused ending first last no_devices no_devices → IsCaused ending first last before after
caused_anyhow Done first last before after cause = cause
caused_anyhow (Refused refusal) first last before after cause = cause
caused_anyhow HostFault first last before after cause = cause
caused_anyhow ShelfFault first last before after cause = absurd (omega (arith, cause))
caused_anyhow InputFault first last before after cause = absurd (omega (arith, cause))
caused_anyhow NoMemory first last before after cause = cause

-- a command that is given neither shelf nor input, beside any
pub performs_alone : {T : Type 0} (tells : Bool) (seen : T → Seen) (more : ℕ) (first : Seen) (before after : Faults) (ending : Ending) (state : Result Seen T) (command : Volume → Run)
    → Performs tells seen command more first no_devices no_devices ending state → Performs tells seen command more first before after ending state
performs_alone tells seen more first before after ending state command performs = record {
  run = performs.run;
  syncs = performs.syncs;
  later = performs.later;
  cause = caused_anyhow ending first (last_of seen state) before after performs.cause;
  words = performs.words;
}

-- a run that gave up before its first event, and one that was cut off there
pub nothing_paused : (first last : Seen) (tree : Volume) (events : List Event) → Trace stand first last tree [] → Paused stand first last tree events
nothing_paused first last tree events trace = paused_longer stand first last tree [] events (trace_paused stand first last tree [] trace)

-- a command that gave up at rest for want of memory, before its first event
pub performs_given_up : {T : Type 0} (tells : Bool) (seen : T → Seen) (first last : Seen) (before after : Faults) (command : Volume → Run) → Advances tells (λ _. []) first last
    → Performs tells seen command 0 first before after NoMemory (Ok last)
performs_given_up tells seen first last before after command quiet = record {
  run = λ t tree stood. nothing_paused first last tree (command tree).events (quiet.trace t tree stood);
  syncs = λ t tree stood. omega (arith, quiet.syncs t tree stood);
  later = quiet.later;
  cause = tt;
  words = λ none. none;
}

-- a command that stopped at rest at a fault of the repositories, before its first event
pub performs_stopped : {T : Type 0} (tells : Bool) (seen : T → Seen) (first last : Seen) (before after : Faults) (command : Volume → Run) → Rose before.shelf after.shelf → Advances tells (λ _. []) first last
    → Performs tells seen command 0 first before after ShelfFault (Ok last)
performs_stopped tells seen first last before after command rose quiet = record {
  run = λ t tree stood. nothing_paused first last tree (command tree).events (quiet.trace t tree stood);
  syncs = λ t tree stood. omega (arith, quiet.syncs t tree stood);
  later = quiet.later;
  cause = rose;
  words = λ none. none;
}

-- a command that is told by fewer devices than tell it
pub performs_fewer : {T : Type 0} (fewer more : Bool) → (IsTrue fewer → IsTrue more) → (seen : T → Seen) (spare : ℕ) (first : Seen) (before after : Faults) (ending : Ending) (state : Result Seen T) (command : Volume → Run)
    → Performs more seen command spare first before after ending state → Performs fewer seen command spare first before after ending state
performs_fewer fewer more told seen spare first before after ending state command performs = record {
  run = λ t. performs.run (told t);
  syncs = λ t. performs.syncs (told t);
  later = performs.later;
  cause = performs.cause;
  words = performs.words;
}

-- events that are told by fewer devices than tell them
pub advances_fewer : (fewer more : Bool) → (IsTrue fewer → IsTrue more) → (events : Volume → List Event) (first last : Seen) → Advances more events first last → Advances fewer events first last
advances_fewer fewer more told events first last advances = record {
  trace = λ t. advances.trace (told t);
  syncs = λ t. advances.syncs (told t);
  later = advances.later;
}

-- a command that was cut off by a fault of the host, before its first event or within a run without events
pub performs_cut_off : {T : Type 0} (tells : Bool) (seen : T → Seen) (first : Seen) (host : T) (before after : Faults) (command : Volume → Run)
    → Told tells ((tree : Volume) → stand first.present.held ≡ Some tree → Cut stand first (seen host) tree []) → Told tells ((seen host).syncs ≤ first.syncs + 1)
    → first.faults ≤ (seen host).faults → Rose first.faults (seen host).faults → Performs tells seen command 0 first before after HostFault (Err host)
performs_cut_off tells seen first host before after command cut syncs later rose = record {
  run = λ t tree stood. cut_longer stand first (seen host) tree [] (command tree).events (cut t tree stood);
  syncs = λ t tree stood. omega (arith, syncs t);
  later = later;
  cause = rose;
  words = λ none. none;
}
