-- What a whole call does, from the host that it is given to the host that it hands back.
use Rattle.std.specs.Prelude.{◌≡◌, ◌⊎◌, ◌≤◌, ◌+◌, ◌*◌, ℕ, Bool, false, List, [], ◌++◌, Some, None}
use Rattle.std.specs.Option.{unwrap_or}
use Rattle.std.specs.FinSet as set
use Rattle.tl_model.specs.Volume.{Name, Volume}
use Rattle.tl_model.specs.Seen.{Seen, Told, Since, IsPicture, Could, at_rest, moment}
use Rattle.tl_model.specs.Trace.{said_by, steps_of, IsFront, IsStop, IsCut, Trace, Cut, Paused}
use Rattle.tl_journal_text.specs.Stand.{stand, tree_of, journal_fault}
use Rattle.tl_refusal.specs.declared.refusal.Refusal.{Refusal}
use Rattle.tl_refusal.specs.declared.refusal.Refusal.TheVariants.{BadJournal}
use Rattle.tl_command.specs.declared.ending.Ending.{Ending}
use Rattle.tl_command.specs.declared.ending.Ending.TheVariants.{Done, Refused, HostFault, ShelfFault, InputFault, NoMemory}
use Rattle.tl_command.specs.Endings.{Faults, IsCaused, IsWordless}
use Rattle.tl_command.specs.Runs.{Run, refused}

-- what was seen of a host from first to last is this run over a tree: whole with its ending, cut off by a fault of the host, or given up
-- for want of memory or by a fault of the shelf or the input
abbrev pub IsRun : Run → Ending → Seen → Seen → Volume → Type 0
IsRun run Done first last tree = (run.ending ≡ Done) × Trace stand first last tree run.events
IsRun run (Refused refusal) first last tree = (run.ending ≡ Refused refusal) × Trace stand first last tree run.events
IsRun run HostFault first last tree = Cut stand first last tree run.events
IsRun run ShelfFault first last tree = Paused stand first last tree run.events
IsRun run InputFault first last tree = Paused stand first last tree run.events
IsRun run NoMemory first last tree = Paused stand first last tree run.events

-- a picture since first is a stop of the run, with a front of its bytes said
abbrev pub IsStopped : Seen → Run → Volume → Volume → List ℕ → Type 0
IsStopped first run tree image said =
    (more : List ℕ) × (said ≡ first.present.said ++ more) × IsFront more (said_by run.events) × IsStop stand run.events tree image more

-- the run was made over a tree, as far as the ending says: each picture since first is a cut of it, and where no name was touched at
-- first, a stop; it has two syncs a step and four more at most
pub record Runs (run : Run) (ending : Ending) (first last : Seen) (tree : Volume) : Type 0 where
  pub made : IsRun run ending first last tree
  pub pictures : (image : Volume) (said : List ℕ) → Could last (moment first) image said → IsCut stand first run.events tree image said
  pub settled : first.present.touched ≡ set.empty → (image : Volume) (said : List ℕ) → Could last (moment first) image said → IsStopped first run tree image said
  pub syncs : last.syncs ≤ first.syncs + (2 * steps_of run.events + 4)

-- what was said of a run that makes no step: all of it with the run's ending, or a front of it
abbrev pub IsSaid : Run → Ending → Seen → Seen → Type 0
IsSaid run Done first last = (run.ending ≡ Done) × (last.present.said ≡ first.present.said ++ said_by run.events)
IsSaid run (Refused refusal) first last = (run.ending ≡ Refused refusal) × (last.present.said ≡ first.present.said ++ said_by run.events)
IsSaid run HostFault first last = (more : List ℕ) × (last.present.said ≡ first.present.said ++ more) × IsFront more (said_by run.events)
IsSaid run ShelfFault first last = ⊥
IsSaid run InputFault first last = ⊥
IsSaid run NoMemory first last = (more : List ℕ) × (last.present.said ≡ first.present.said ++ more) × IsFront more (said_by run.events)

-- a picture whose image could be left at first, with a front of these bytes said since
abbrev pub IsLeftAt : Seen → List ℕ → Volume → List ℕ → Type 0
IsLeftAt first bytes image said =
    (more : List ℕ) × (said ≡ first.present.said ++ more) × IsFront more bytes × IsPicture (at_rest first.present) image first.present.said

-- a run was said, and else nothing was done: no name holds anything else or is touched that wasn't, and the image of each picture since
-- first could be left at first
pub record OnlySays (run : Run) (ending : Ending) (first last : Seen) : Type 0 where
  pub said : IsSaid run ending first last
  pub held : last.present.held ≡ first.present.held
  pub touched : (name : Name) → set.contains first.present.touched name ≡ false → set.contains last.present.touched name ≡ false
  pub pictures : Since first last (IsLeftAt first (said_by run.events))

-- a refusal that was said; or a fault of the host, or want of memory
abbrev pub IsRefusalOr : Refusal → Ending → Type 0
IsRefusalOr refusal ending = (ending ≡ Refused refusal) ⊎ ((ending ≡ HostFault) ⊎ (ending ≡ NoMemory))

-- the place of the first field that is cut or wrong in the body at which a volume's gate is open, where that body doesn't read
abbrev pub journal_place : Volume → ℕ
journal_place volume = unwrap_or (journal_fault volume) 0

-- a volume was recovered, so that it is at rest: where the host tells, it stood for its tree, and nothing was said
pub record Begins (tells : Bool) (first last : Seen) : Type 0 where
  pub stood : Told tells (stand first.present.held ≡ Some (tree_of last.present.held))
  pub trace : Told tells ((tree : Volume) → stand first.present.held ≡ Some tree → Trace stand first last tree [])
  pub syncs : Told tells (last.syncs ≤ first.syncs + 1)
  pub later : first.faults ≤ last.faults

-- a volume wasn't recovered: where the host tells and it stood for a tree, any run over that tree was cut off by a fault before its first
-- event; where it stands for none, it is refused at the place of its journal, and else nothing was done
pub record Fails (tells : Bool) (first : Seen) (ending : Ending) (last : Seen) : Type 0 where
  pub run : Told tells ((run : Run) (tree : Volume) → stand first.present.held ≡ Some tree → Runs run ending first last tree)
  pub without : Told tells (stand first.present.held ≡ None → OnlySays (refused (BadJournal (journal_place first.present.held))) ending first last)
  pub uncarried : Told tells ((tree : Volume) → stand first.present.held ≡ Some tree → ending ≡ HostFault)
  pub cause : (before after : Faults) → IsCaused ending first last before after
  pub words : IsWordless ending → ⊥
