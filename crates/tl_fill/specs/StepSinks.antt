-- An open step of a tree as what takes files.
use Rattle.std.specs.Prelude.{◌≡◌, ℕ, ◌+◌, ◌≤◌, Bool, if◌then◌else◌, [], Option, Some, None}
use Rattle.std.specs.FinSet as set
use Rattle.tl_model.specs.Causes.{Rose}
use Rattle.tl_model.specs.Seen.{Seen, Told}
use Rattle.tl_journal.specs.Spent.{Stages}
use Rattle.tl_fetch.specs.Sinks.{SinkSeen}
use Rattle.tl_tree.specs.Opened.{Opened, given}
use Rattle.tl_fill.specs.declared.sink.Held.{Held}
use Rattle.tl_fill.specs.declared.sink.Held.TheVariants.{Open, Lost}

-- a step, or the host that a failed call of it left, as a sink, with so many calls behind the failure; a step that can only be abandoned
-- takes no path and lacks no byte
abbrev pub sink_seen : {H : Type 0} → (H → Seen) → Option (Held H) → ℕ → SinkSeen
sink_seen seen (Some (Open step)) later =
    record { given = given step; takes = if step.astray then set.empty else step.awaits; lacks = if step.astray then 0 else step.lacks; faults = step.seen.faults + later }
sink_seen seen (Some (Lost host)) later = record { given = []; takes = set.empty; lacks = 0; faults = (seen host).faults + later }
sink_seen seen None later = record { given = []; takes = set.empty; lacks = 0; faults = later }

-- a step of one tree and change goes on, in place
pub record StepGoesOn (tells : Bool) (old new : Opened) : Type 0 where
  pub db : new.db ≡ old.db
  pub parts : new.parts ≡ old.parts
  pub label : new.label ≡ old.label
  pub astray : new.astray ≡ old.astray
  pub stages : Told tells (Stages old.seen new.seen)
  pub later : old.seen.faults ≤ new.seen.faults

-- a step failed
pub record StepFailed (tells : Bool) (old : Opened) (host : Seen) : Type 0 where
  pub stages : Told tells (Stages old.seen host)
  pub later : old.seen.faults ≤ host.faults
  pub rose : Rose old.seen.faults host.faults

-- a step since it was another one: it goes on, or failed
abbrev pub StepSince : {H : Type 0} → Bool → (H → Seen) → Option (Held H) → ℕ → Option (Held H) → ℕ → Type 0
StepSince tells seen (Some (Open old)) before (Some (Open new)) after = StepGoesOn tells old new × (after ≡ before)
StepSince tells seen (Some (Open old)) before (Some (Lost host)) after = StepFailed tells old (seen host)
StepSince tells seen (Some (Open old)) before None after = ⊥
StepSince tells seen (Some (Lost host)) before now after = Unit {0}
StepSince tells seen None before now after = Unit {0}

-- something is held
abbrev pub IsHeld : {H : Type 0} → Option (Held H) → Type 0
IsHeld (Some held) = Unit {0}
IsHeld None = ⊥
