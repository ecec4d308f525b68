use Rattle.std.proofs.Common.{Result, length, drop}
use Rattle.std.specs.List.{enumerate_from}
use Rattle.tl_model.specs.Seen.{Seen}
use Rattle.tl_command.specs.declared.ending.Ending.{Ending}
use Rattle.tl_command.specs.Endings.{no_devices}
use Rattle.tl_command.specs.Performs.{Performs}
use Rattle.tl_command.specs.Steps.{running}
use Rattle.tl_backups.specs.Backing.{nothing_left, backup_step}
use Rattle.tl_backups.proofs.backing.back_up_all.Given as goal

abbrev pub invariant-loop-before : goal.invariant-loop-before
invariant-loop-before g l = (ending : Ending) (state : Result Seen _)
    → Performs g.H.Host.tells g.H.Host.seen (λ t. running (backup_step (length l.packages)) (drop l.before (enumerate_from 1 l.packages)) nothing_left l.tree.db t) 0 l.tree.seen no_devices no_devices ending state
    → Performs g.H.Host.tells g.H.Host.seen (λ t. running (backup_step (length l.packages)) (enumerate_from 1 l.packages) nothing_left l.fn.tree.db t) 0 l.fn.tree.seen no_devices no_devices ending state
