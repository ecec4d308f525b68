-- What a command does: its run, its faults and its syncs.
use Rattle.std.specs.Prelude.{◌≡◌, ◌≤◌, ◌+◌, ◌*◌, ℕ, Bool, List, Result, Ok, Err, Some}
use Rattle.tl_model.specs.Volume.{Volume}
use Rattle.tl_model.specs.Left.{left}
use Rattle.tl_model.specs.Seen.{Seen, Told}
use Rattle.tl_model.specs.Trace.{Event, steps_of, Trace, Cut, Paused}
use Rattle.tl_journal_text.specs.Stand.{stand}
use Rattle.tl_command.specs.declared.ending.Ending.{Ending}
use Rattle.tl_command.specs.declared.ending.Ending.TheVariants.{Done, Refused, HostFault, ShelfFault, InputFault, NoMemory}
use Rattle.tl_command.specs.Endings.{Faults, IsCaused, IsWordless, spare_syncs}
use Rattle.tl_command.specs.Runs.{Run}

-- the volume is at rest after a run: made whole, or given up for want of memory or by a fault of the shelf or the input
abbrev pub IsRested : Run → Ending → Seen → Seen → Volume → Type 0
IsRested run Done first last tree = (run.ending ≡ Done) × Trace stand first last tree run.events
IsRested run (Refused refusal) first last tree = (run.ending ≡ Refused refusal) × Trace stand first last tree run.events
IsRested run HostFault first last tree = ⊥
IsRested run ShelfFault first last tree = Paused stand first last tree run.events
IsRested run InputFault first last tree = Paused stand first last tree run.events
IsRested run NoMemory first last tree = Paused stand first last tree run.events

-- the volume isn't at rest: the run was cut off by a fault of the host
abbrev pub IsFailed : Run → Ending → Seen → Seen → Volume → Type 0
IsFailed run HostFault first last tree = Cut stand first last tree run.events
IsFailed run _ first last tree = ⊥

-- what was seen of a command from first on is this run over a tree
abbrev pub IsActed : {T : Type 0} → (T → Seen) → Run → Ending → Result Seen T → Seen → Volume → Type 0
IsActed seen run ending (Ok last) first tree = IsRested run ending first last tree
IsActed seen run ending (Err host) first tree = IsFailed run ending first (seen host) tree

-- what a command leaves is seen as: its state, or the host alone
abbrev pub last_of : {T : Type 0} → (T → Seen) → Result Seen T → Seen
last_of seen state = left (λ last. last) seen state

-- a command was carried out from first on, as far as it came: where the host tells, what was seen is its run over the tree that first
-- stands for, with two syncs a step at most, one where it wasn't carried out, and so many more; the host's count of faults never falls,
-- and a fault is answered only where its device's count rose. Its words aren't refused here
pub record Performs {T : Type 0} (tells : Bool) (seen : T → Seen) (command : Volume → Run) (more : ℕ) (first : Seen) (before after : Faults)
    (ending : Ending) (state : Result Seen T) : Type 0 where
  pub run : Told tells ((tree : Volume) → stand first.present.held ≡ Some tree → IsActed seen (command tree) ending state first tree)
  pub syncs : Told tells ((tree : Volume) → stand first.present.held ≡ Some tree → (last_of seen state).syncs ≤ first.syncs + (2 * steps_of (command tree).events + (more + spare_syncs ending)))
  pub later : first.faults ≤ (last_of seen state).faults
  pub cause : IsCaused ending first (last_of seen state) before after
  pub words : IsWordless ending → ⊥

-- some events of a command were made from first to last: where the host tells, these are the events over the tree that first stands for,
-- with two syncs a step at most; the host's count of faults never falls
pub record Advances (tells : Bool) (events : Volume → List Event) (first last : Seen) : Type 0 where
  pub trace : Told tells ((tree : Volume) → stand first.present.held ≡ Some tree → Trace stand first last tree (events tree))
  pub syncs : Told tells ((tree : Volume) → stand first.present.held ≡ Some tree → last.syncs ≤ first.syncs + 2 * steps_of (events tree))
  pub later : first.faults ≤ last.faults
