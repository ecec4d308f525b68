-- How a command ends that halts over an open step.
use Rattle.std.proofs.Common.{◌≡◌, ◌≤◌, Bool, IsTrue, [], Some, Result, Ok, Err, sym, subst, arith}
use Rattle.std.specs.Prelude.{IfErr}
use Rattle.tl_model.specs.Causes.{Rose}
use Rattle.tl_model.specs.Seen.{Seen, Told}
use Rattle.tl_model.specs.Volume.{Volume}
use Rattle.tl_model.specs.Joins.{cut_longer, trace_paused, paused_cut}
use Rattle.tl_journal_text.specs.Stand.{stand}
use Rattle.tl_journal.specs.Spent.{Stages}
use Rattle.tl_journal.proofs.Stagings.{stages_join}
use Rattle.tl_tree.specs.Opened.{Opened}
use Rattle.tl_tree.specs.Traces.{stays_trace}
use Rattle.tl_refusal.specs.declared.refusal.Refusal.{Refusal}
use Rattle.tl_command.specs.declared.ending.Ending.{Ending}
use Rattle.tl_command.specs.declared.ending.Ending.TheVariants.{HostFault}
use Rattle.tl_command.specs.Endings.{Faults, no_devices}
use Rattle.tl_command.specs.Performs.{Advances, Performs}
use Rattle.tl_command.specs.Runs.{Run, refused}
use Rattle.tl_command.proofs.Joins.{performs_alone, performs_fewer, performs_quiet, performs_same}
use Rattle.tl_fill.specs.Ends.{IsOpenedFrom}
use Rattle.tl_fill.specs.StepSinks.{StepGoesOn}

-- calls that stage are no events
pub advances_staged : (tells : Bool) (first last : Seen) → Told tells (Stages first last) → first.faults ≤ last.faults → Advances tells (λ _. []) first last
advances_staged tells first last stages later = record {
  trace = λ t tree stood. stays_trace first last tree stood (stages t).stays;
  syncs = λ t tree stood. let same : last.syncs ≡ first.syncs = (stages t).syncs in omega (arith, same);
  later = later;
}

-- an open step that went on
pub opened_on : (tells : Bool) (first : Seen) (old new : Opened) → IsOpenedFrom tells first old → StepGoesOn tells old new → IsOpenedFrom tells first new
opened_on tells first old new opened goes = record {
  stands = opened.stands;
  stages = λ t. stages_join first old.seen new.seen (opened.stages t) (goes.stages t);
  later = omega (arith, opened.later, goes.later);
}

module _ {T : Type 0} (tells : Bool) (seen : T → Seen) (first : Seen) (before after : Faults) (command : Volume → Run) where
  -- a command that ends so, by other words
  pub performs_renamed : (ending other : Ending) (state same : Result Seen T) → ending ≡ other → state ≡ same → Performs tells seen command 0 first before after other same → Performs tells seen command 0 first before after ending state
  performs_renamed ending other state same is at performs =
      subst (λ (e : Ending). Performs tells seen command 0 first before after e state) (sym is)
      (subst (λ (s : Result Seen T). Performs tells seen command 0 first before after other s) (sym at) performs)

  -- a command that a fault of the host cut off before its first event
  pub performs_broken : (host : T) → Advances tells (λ _. []) first (seen host) → Rose first.faults (seen host).faults → Performs tells seen command 0 first before after HostFault (Err host)
  performs_broken host quiet rose = record {
    run = λ t tree stood. cut_longer stand first (seen host) tree [] (command tree).events
        (paused_cut stand first (seen host) tree [] (trace_paused stand first (seen host) tree [] (quiet.trace t tree stood)));
    syncs = λ t tree stood. omega (arith, quiet.syncs t tree stood);
    later = quiet.later;
    cause = rose;
    words = λ none. none;
  }

  -- a refusal is all of its run
  pub performs_refusal : (host_tells : Bool) → (IsTrue tells → IsTrue host_tells) → (refusal : Refusal) (mid : Seen) (ending : Ending) (state : Result Seen T) → Advances host_tells (λ _. []) first mid
      → Told tells ((tree : Volume) → stand first.present.held ≡ Some tree → command tree ≡ refused refusal)
      → Performs host_tells seen (λ _. refused refusal) 0 mid no_devices no_devices ending state → Performs tells seen command 0 first before after ending state
  performs_refusal host_tells told refusal mid ending state quiet same performs =
      performs_same tells seen 0 first before after ending state (λ _. refused refusal) command (λ t tree stood. sym (same t tree stood))
      (performs_fewer tells host_tells told seen 0 first before after ending state (λ _. refused refusal)
      (performs_quiet host_tells seen 0 first before after ending state (λ _. refused refusal) mid quiet
      (performs_alone host_tells seen 0 mid before after ending state (λ _. refused refusal) performs)))

-- an error of which something weaker is said
pub err_weaker : {T E : Type 0} (r : Result T E) (P Q : E → Type 0) → ((e : E) → P e → Q e) → IfErr r P → IfErr r Q
err_weaker (Ok x) P Q goes holds = tt
err_weaker (Err e) P Q goes holds = goes e holds
