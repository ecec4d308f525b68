use Rattle.std.proofs.Common.{◌≤◌, ◌+◌, ◌&&◌, Result, List, length, drop, take}
use Rattle.tl_model.specs.Devices.{SameShelf}
use Rattle.tl_model.specs.Seen.{Seen}
use Rattle.tl_model.specs.Volume.{Volume}
use Rattle.tl_entry.specs.declared.object.Object.{Object}
use Rattle.tl_coming.specs.Made.{AreChanges}
use Rattle.tl_command.specs.declared.ending.Ending.{Ending}
use Rattle.tl_command.specs.Endings.{Faults}
use Rattle.tl_command.specs.Performs.{Performs}
use Rattle.tl_command.specs.Runs.{Run}
use Rattle.tl_trigger.specs.Stale.{HasChanges}
use Rattle.tl_install.specs.Left.{spoken_in}
use Rattle.tl_install.specs.Steps.{steps_run}
use Rattle.tl_install.proofs.making.make_all.Given as goal

abbrev pub invariant-loop-at : goal.invariant-loop-at
invariant-loop-at g l = record {
  changes : AreChanges l.repos l.tree.db (drop l.at l.steps);
  same : SameShelf (g.S.Shelf.seen l.fn.shelf) (g.S.Shelf.seen l.shelf);
  later : (g.S.Shelf.seen l.fn.shelf).faults ≤ (g.S.Shelf.seen l.shelf).faults;
  names : HasChanges l.fn.tree.db l.tree.db (spoken_in l.repos (take l.at l.steps));
  run : (rest : List Object → Volume → Run) (before after : Faults) (ending : Ending) (state : Result Seen _)
      → Performs (g.S.Shelf.tells && g.H.Host.tells) g.H.Host.seen
      (λ t. steps_run (g.S.Shelf.seen l.fn.shelf).repositories l.repos (l.at + 1) (length l.steps) (drop l.at l.steps) rest l.tree.db t) 0 l.tree.seen before after ending state
      → Performs (g.S.Shelf.tells && g.H.Host.tells) g.H.Host.seen
      (λ t. steps_run (g.S.Shelf.seen l.fn.shelf).repositories l.repos 1 (length l.steps) l.steps rest l.fn.tree.db t) 0 l.fn.tree.seen before after ending state;
}
