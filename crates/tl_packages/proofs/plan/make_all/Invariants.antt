use Rattle.std.proofs.Common.{Result, List, length, drop, take}
use Rattle.tl_model.specs.Seen.{Seen}
use Rattle.tl_model.specs.Volume.{Volume}
use Rattle.tl_entry.specs.declared.object.Object.{Object}
use Rattle.tl_trigger.specs.Stale.{HasChanges}
use Rattle.tl_command.specs.declared.ending.Ending.{Ending}
use Rattle.tl_command.specs.Endings.{no_devices}
use Rattle.tl_command.specs.Performs.{Performs}
use Rattle.tl_command.specs.Runs.{Run}
use Rattle.tl_command.specs.Steps.{running}
use Rattle.tl_packages.specs.Remove.{plan_step, numbered, left_in_all}
use Rattle.tl_packages.proofs.plan.make_all.Given as goal

abbrev pub invariant-loop-at : goal.invariant-loop-at
invariant-loop-at g l = ((rest : List Object → Volume → Run) (ending : Ending) (state : Result Seen _)
    → Performs g.H.Host.tells g.H.Host.seen (λ t. running (plan_step (length l.steps)) (drop l.at (numbered 1 l.steps)) rest l.tree.db t) 0 l.tree.seen no_devices no_devices ending state
    → Performs g.H.Host.tells g.H.Host.seen (λ t. running (plan_step (length l.steps)) (numbered 1 l.steps) rest l.fn.tree.db t) 0 l.fn.tree.seen no_devices no_devices ending state)
    × HasChanges l.fn.tree.db l.tree.db (left_in_all (take l.at l.steps))
