use Rattle.std.proofs.Common.{◌≡◌, ℕ, List, [], length, drop, sym, subst, arith}
use Rattle.std.specs.List.{enumerate_from}
use Rattle.std.proofs.lemmas.List.{drop_all}
use Rattle.std.proofs.lemmas.List.FromFn.{length-enumerate_from}
use Rattle.tl_model.specs.Volume.{Name}
use Rattle.tl_command.specs.Endings.{no_devices}
use Rattle.tl_command.specs.Performs.{Performs}
use Rattle.tl_command.specs.Steps.{running}
use Rattle.tl_command.proofs.Joins.{performs_of}
use Rattle.tl_backups.specs.Backing.{nothing_left, backup_step}
use Rattle.tl_backups.proofs.Packages.{name_made, name_ended}
use Rattle.tl_backups.proofs.backing.back_up_all.Goals as goal

pub loop-before-init : goal.loop-before-init
loop-before-init g c = λ ending state performs. performs

pub loop-before-preserved : goal.loop-before-preserved
loop-before-preserved g c = λ ending state performs.
    c.loop-before.invariant ending state
    (name_made g.H.Host.tells g.H.Host.seen (length c.args.packages.now) c.args.packages.now c.loop-before.before c.index-packages-before.result c.loop-before-test.true c.index-packages-before.is c.loop-before.tree ending state c.in-Ok.next c.in-Ok.ensures.made performs)

pub returns-in-Err : goal.returns-in-Err
returns-in-Err g c =
    c.loop-before.invariant c.in-Err.acted.ending c.in-Err.acted.state
    (name_ended g.H.Host.tells g.H.Host.seen (length c.args.packages.now) c.args.packages.now c.loop-before.before c.index-packages-before.result c.loop-before-test.true c.index-packages-before.is c.loop-before.tree c.in-Err.acted.ending c.in-Err.acted.state c.in-Err.ensures.acted)

pub returns : goal.returns
returns g c =
    let ending = c.finish.result.ending in
    let state = c.finish.result.state in
    let names = c.args.packages.now in
    let tree = c.loop-before.tree in
    let none : drop c.loop-before.before (enumerate_from 1 names) ≡ [] = drop_all c.loop-before.before (enumerate_from 1 names) (omega (arith, length-enumerate_from 1 names)) in
    c.loop-before.invariant ending state
    (subst (λ (items : List (ℕ × Name)). Performs g.H.Host.tells g.H.Host.seen (λ t. running (backup_step (length names)) items nothing_left tree.db t) 0 tree.seen no_devices no_devices ending state) (sym none)
    (performs_of _ _ _ _ _ _ _ c.of_tree.ensures c.finish.ensures))
