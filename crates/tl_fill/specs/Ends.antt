-- How a command ends that halts over an open step.
use Rattle.std.specs.Prelude.{◌≡◌, ◌≤◌, ◌+◌, Bool, ℕ, [], ◌∷◌, Option, Some, None, Result, Err}
use Rattle.tl_model.specs.Causes.{Rose}
use Rattle.tl_model.specs.Seen.{Seen, Told}
use Rattle.tl_model.specs.Trace.{Cut}
use Rattle.tl_model.specs.Volume.{Volume}
use Rattle.tl_journal_text.specs.Stand.{stand, tree_of}
use Rattle.tl_journal.specs.Spent.{Stages}
use Rattle.tl_tree.specs.Answers.{IsStepped, step_of}
use Rattle.tl_tree.specs.Changes.{entries_after}
use Rattle.tl_tree.specs.Filled.{filled}
use Rattle.tl_tree.specs.Opened.{IsWhole, Opened, given}
use Rattle.tl_tree.specs.Planted.{Planted, planted}
use Rattle.tl_command.specs.declared.ending.Ending.{Ending}
use Rattle.tl_command.specs.declared.ending.Ending.TheVariants.{HostFault}
use Rattle.tl_command.specs.Endings.{Faults, IsOfWords}
use Rattle.tl_command.specs.Runs.{Run, refused}
use Rattle.tl_fill.specs.declared.halt.Halt.{Halt}
use Rattle.tl_fill.specs.declared.halt.Halt.TheVariants.{Refused, Shelf, Sink, Memory}
use Rattle.tl_fill.specs.declared.sink.Held.{Held}
use Rattle.tl_fill.specs.declared.sink.Held.TheVariants.{Open, Lost}

-- a command isn't refused for its words
abbrev pub IsPlainHalt : Halt → Type 0
IsPlainHalt (Refused refusal) = IsOfWords refusal → ⊥
IsPlainHalt Shelf = Unit {0}
IsPlainHalt Sink = Unit {0}
IsPlainHalt Memory = Unit {0}

-- a command may end by a halt, where the host's count of faults is this by now: it is refused so, where the devices tell, or a count rose
abbrev pub EndsBy : Bool → (Volume → Run) → Faults → Faults → Seen → ℕ → Halt → Type 0
EndsBy tells command before after first now (Refused refusal) =
    Told tells ((tree : Volume) → stand first.present.held ≡ Some tree → command tree ≡ refused refusal)
EndsBy tells command before after first now Shelf = Rose before.shelf after.shelf
EndsBy tells command before after first now Sink = Rose first.faults now
EndsBy tells command before after first now Memory = Unit {0}

-- a step is open over a host that was seen so before, and stood for its tree: nothing else was done since
pub record IsOpenedFrom (tells : Bool) (first : Seen) (step : Opened) : Type 0 where
  pub stands : Told tells (stand first.present.held ≡ Some (tree_of first.present.held))
  pub stages : Told tells (Stages first step.seen)
  pub later : first.faults ≤ step.seen.faults

-- each file of a step has come whole, where the step is open
abbrev pub IsWholeHeld : {H : Type 0} → Option (Held H) → Type 0
IsWholeHeld (Some (Open step)) = IsWhole step
IsWholeHeld (Some (Lost host)) = Unit {0}
IsWholeHeld None = ⊥

-- a step was made of an open one
pub record FinishesStep (tells : Bool) (step : Opened) (next : Planted) : Type 0 where
  pub db : next.db ≡ entries_after (filled (given step) step.parts) step.db
  pub stepped : Told tells (IsStepped (planted step.seen step.db) (filled (given step) step.parts) step.label next)
  pub syncs : Told tells (next.seen.syncs ≤ step.seen.syncs + 2)
  pub later : step.seen.faults ≤ next.seen.faults

-- a step was made of what a sink held
abbrev pub HasFinished : {H : Type 0} → Bool → Option (Held H) → Planted → Type 0
HasFinished tells (Some (Open step)) next = FinishesStep tells step next
HasFinished tells (Some (Lost host)) next = ⊥
HasFinished tells None next = ⊥

-- an open step was cut off by a fault of the host
pub record BreaksStep (tells : Bool) (step : Opened) (host : Seen) : Type 0 where
  pub cut : Told tells (Cut stand step.seen host (tree_of step.seen.present.held) (step_of (planted step.seen step.db) (filled (given step) step.parts) step.label ∷ []))
  pub syncs : Told tells (host.syncs ≤ step.seen.syncs + 2)
  pub later : step.seen.faults ≤ host.faults
  pub rose : Rose step.seen.faults host.faults

-- a command ends over a host that failed: at the end of an open step, or while it took files
abbrev pub HasBroken : {H : Type 0} → Bool → (H → Seen) → Option (Held H) → Ending → Result Seen H → Type 0
HasBroken {H} tells seen (Some (Open step)) ending state = (host : H) × (ending ≡ HostFault) × (state ≡ Err host) × BreaksStep tells step (seen host)
HasBroken tells seen (Some (Lost host)) ending state = (ending ≡ HostFault) × (state ≡ Err host)
HasBroken tells seen None ending state = ⊥
