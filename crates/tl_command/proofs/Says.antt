-- A text that is said by a volume at rest, and a recovery, as parts of a command.
use Rattle.std.proofs.Common.{◌≡◌, ◌≤◌, ℕ, Bool, true, false, List, [], ◌∷◌, Result, Ok, Err, Some, refl, sym, ◌∙◌, ap, subst, arith}
use Rattle.tl_model.specs.Volume.{Volume}
use Rattle.tl_model.specs.Acks.{IsPlain}
use Rattle.tl_model.specs.Causes.{Rose}
use Rattle.tl_model.specs.Seen.{Seen, Told, Says}
use Rattle.tl_model.specs.Trace.{Event, Text, Trace, Cut}
use Rattle.tl_model.specs.Joins.{trace_text, cut_text}
use Rattle.tl_journal_text.specs.Stand.{stand, tree_of}
use Rattle.tl_journal.specs.Spent.{Resumes}
use Rattle.tl_tree.specs.Traces.{resumed_trace, resumed_is_cut}
use Rattle.tl_refusal.specs.declared.refusal.Refusal.{Refusal}
use Rattle.tl_refusal.specs.Refusals.{refusal_line}
use Rattle.tl_command.specs.declared.ending.Ending.{Ending}
use Rattle.tl_command.specs.declared.ending.Ending.TheVariants.{Done, Refused, HostFault, ShelfFault, InputFault, NoMemory}
use Rattle.tl_command.specs.Endings.{Faults, IsOfWords, spare_syncs}
use Rattle.tl_command.specs.Runs.{Run, finished, saying, refused}
use Rattle.tl_command.specs.Performs.{IsActed, Performs, Advances, last_of}
use Rattle.tl_command.specs.Whole.{Begins}
use Rattle.tl_command.proofs.Joins.{acted_join, caused_join, nothing_paused, performs_cut_off}

module _ {T : Type 0} (tells : Bool) (seen : T → Seen) (first : Seen) (before after : Faults) where
  -- a text was said, and the command carried out
  pub performs_said : (bytes : List ℕ) (last : Seen) → IsPlain bytes → Told tells (Says true bytes first last) → first.faults ≤ last.faults → Performs tells seen (λ _. saying bytes) 0 first before after Done (Ok last)
  performs_said bytes last plain says later = record {
    run = λ t tree stood. (refl, trace_text stand first last tree bytes stood plain (says t));
    syncs = λ t tree stood. let same : last.syncs ≡ first.syncs = (says t).syncs in omega (arith, same);
    later = later;
    cause = tt;
    words = λ none. none;
  }

  -- a refusal was said
  pub performs_refused : (refusal : Refusal) (last : Seen) → (IsOfWords refusal → ⊥) → IsPlain (refusal_line refusal) → Told tells (Says true (refusal_line refusal) first last) → first.faults ≤ last.faults
      → Performs tells seen (λ _. refused refusal) 0 first before after (Refused refusal) (Ok last)
  performs_refused refusal last other plain says later = record {
    run = λ t tree stood. (refl, trace_text stand first last tree (refusal_line refusal) stood plain (says t));
    syncs = λ t tree stood. let same : last.syncs ≡ first.syncs = (says t).syncs in omega (arith, same);
    later = later;
    cause = tt;
    words = other;
  }

  -- nothing is left to do
  pub performs_finished : (last : Seen) → Advances tells (λ _. []) first last → Performs tells seen (λ _. finished) 0 first before after Done (Ok last)
  performs_finished last quiet = record {
    run = λ t tree stood. (refl, quiet.trace t tree stood);
    syncs = λ t tree stood. omega (arith, quiet.syncs t tree stood);
    later = quiet.later;
    cause = tt;
    words = λ none. none;
  }

  -- a front of a text was said by a host that then failed
  pub performs_cut_text : (command : Volume → Run) (bytes : List ℕ) (host : T) (last : Seen) → seen host ≡ last → ((tree : Volume) → (command tree).events ≡ Text bytes ∷ []) → IsPlain bytes → Told tells (Says false bytes first last)
      → first.faults ≤ last.faults → Rose first.faults last.faults → Performs tells seen command 0 first before after HostFault (Err host)
  performs_cut_text command bytes host last same is plain says later rose = record {
    run = λ t tree stood. subst (λ (s : Seen). Cut stand first s tree (command tree).events) (sym same)
        (subst (λ (events : List Event). Cut stand first last tree events) (sym (is tree)) (cut_text stand false first last tree bytes stood plain (says t)));
    syncs = λ t tree stood. let unsynced : last.syncs ≡ first.syncs = (says t).syncs in let here : (seen host).syncs ≡ last.syncs = ap (λ (s : Seen). s.syncs) same in omega (arith, unsynced, here);
    later = let here : (seen host).faults ≡ last.faults = ap (λ (s : Seen). s.faults) same in omega (arith, later, here);
    cause = subst (λ (s : Seen). Rose first.faults s.faults) (sym same) rose;
    words = λ none. none;
  }

-- a recovery: a run without events, whole or cut off

resumed : (first last : Seen) (tree : Volume) → Resumes first last → stand first.present.held ≡ Some tree → Trace stand first last tree []
resumed first last tree resumes stood = resumed_trace first last tree stood (resumes.stands ∙ stood) resumes.said resumes.pictures

-- that was cut off by a fault of the host
pub cut_resumed : (first last : Seen) (tree : Volume) → Resumes first last → stand first.present.held ≡ Some tree → Cut stand first last tree []
cut_resumed first last tree resumes stood = resumed_is_cut first last tree stood (resumes.stands ∙ stood) resumes.said resumes.pictures

-- after which a command can be carried out
pub begins_resumed : (tells : Bool) (first mid : Seen) → Told tells (stand first.present.held ≡ Some (tree_of mid.present.held)) → Told tells (Resumes first mid) → first.faults ≤ mid.faults → Begins tells first mid
begins_resumed tells first mid is resumes later = record {
  stood = is;
  trace = λ t tree stood. resumed first mid tree (resumes t) stood;
  syncs = λ t. (resumes t).syncs;
  later = later;
}

module _ {T : Type 0} (tells : Bool) (seen : T → Seen) (first : Seen) (before after : Faults) where
  -- a command before which the host failed
  pub performs_unresumed : (command : Volume → Run) (host : T) → Told tells (Resumes first (seen host)) → first.faults ≤ (seen host).faults → Rose first.faults (seen host).faults
      → Performs tells seen command 0 first before after HostFault (Err host)
  performs_unresumed command host resumes later rose = performs_cut_off tells seen first host before after command
      (λ t tree stood. cut_resumed first (seen host) tree (resumes t) stood) (λ t. (resumes t).syncs) later rose

  module _ (mid : Seen) (resumes : Told tells (Resumes first mid)) (later : first.faults ≤ mid.faults) where
    -- one that gives up for want of memory
    pub performs_resumed_given_up : (command : Volume → Run) → Performs tells seen command 0 first before after NoMemory (Ok mid)
    performs_resumed_given_up command = record {
      run = λ t tree stood. nothing_paused first mid tree (command tree).events (resumed first mid tree (resumes t) stood);
      syncs = λ t tree stood. let synced = (resumes t).syncs in omega (arith, synced);
      later = later;
      cause = tt;
      words = λ none. none;
    }

    -- a refusal
    pub performs_resumed : (refusal : Refusal) (ending : Ending) (state : Result Seen T) → Performs tells seen (λ _. refused refusal) 0 mid before after ending state → Told tells ((last_of seen state).syncs ≡ mid.syncs)
        → Performs tells seen (λ _. refused refusal) 0 first before after ending state
    performs_resumed refusal ending state near unsynced = record {
      run = λ t tree stood.
          let trace = resumed first mid tree (resumes t) stood in
          acted_join seen [] (refused refusal) ending state first mid tree trace (near.run t tree trace.stands);
      syncs = λ t tree stood.
          let trace = resumed first mid tree (resumes t) stood in
          let synced = (resumes t).syncs in
          omega (arith, synced, unsynced t, refusing refusal ending state mid tree (near.run t tree trace.stands));
      later = omega (arith, later, near.later);
      cause = caused_join ending first mid (last_of seen state) before after later near.cause;
      words = near.words;
    }
      where
        refusing : (refusal : Refusal) (ending : Ending) (state : Result Seen T) (mid : Seen) (tree : Volume) → IsActed seen (refused refusal) ending state mid tree → 1 ≤ spare_syncs ending
        refusing refusal Done (Ok last) mid tree acted = absurd (cc (acted.0))
        refusing refusal Done (Err host) mid tree acted = absurd acted
        refusing refusal (Refused other) state mid tree acted = omega arith
        refusing refusal HostFault state mid tree acted = omega arith
        refusing refusal ShelfFault state mid tree acted = omega arith
        refusing refusal InputFault state mid tree acted = omega arith
        refusing refusal NoMemory state mid tree acted = omega arith
