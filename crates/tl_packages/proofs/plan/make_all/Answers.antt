use Rattle.std.proofs.Common.{◌≡◌, ℕ, List, [], length, drop, sym, subst, arith}
use Rattle.std.proofs.lemmas.List.{drop_all, take_all}
use Rattle.tl_trigger.specs.Stale.{HasChanges}
use Rattle.tl_formats.proofs.ChangeLaws.{changes_none}
use Rattle.tl_command.specs.Endings.{no_devices}
use Rattle.tl_command.specs.Performs.{Performs}
use Rattle.tl_command.specs.Steps.{running}
use Rattle.tl_plan.specs.declared.planned.Planned.{Planned}
use Rattle.tl_packages.specs.Remove.{RemovesOne, plan_step, numbered, left_in_all}
use Rattle.tl_packages.proofs.PlanLaws.{step_made, step_ended, changes_more, length-numbered}
use Rattle.tl_packages.proofs.plan.make_all.Goals as goal

pub loop-at-init : goal.loop-at-init
loop-at-init g c = (λ rest ending state performs. performs, changes_none c.args.tree.db [])

pub make-requires : goal.make-requires
make-requires g c = subst RemovesOne (sym c.index-steps-at.is) (c.requires c.loop-at.at c.index-steps-at.result c.loop-at-test.true)

pub loop-at-preserved : goal.loop-at-preserved
loop-at-preserved g c =
    let steps = c.args.steps.now in
    let at = c.loop-at.at in
    let planned = c.index-steps-at.result in (
      λ rest ending state performs.
          c.loop-at.invariant.0 rest ending state
          (step_made g.H.Host.tells g.H.Host.seen (length steps) steps at planned c.loop-at-test.true c.index-steps-at.is c.loop-at.tree rest ending state c.in-Ok.next c.in-Ok.ensures.made performs),
      changes_more steps at planned c.args.tree.db c.loop-at.tree.db c.in-Ok.next.db c.loop-at-test.true c.index-steps-at.is c.loop-at.invariant.1 c.in-Ok.ensures.db,
    )

pub returns-in-Err-clause-acted : goal.returns-in-Err-clause-acted
returns-in-Err-clause-acted g c = λ rest.
    c.loop-at.invariant.0 rest c.in-Err.acted.ending c.in-Err.acted.state
    (step_ended g.H.Host.tells g.H.Host.seen (length c.args.steps.now) c.args.steps.now c.loop-at.at c.index-steps-at.result c.loop-at-test.true c.index-steps-at.is c.loop-at.tree rest
    c.in-Err.acted.ending c.in-Err.acted.state c.in-Err.ensures.acted)

pub returns-clause-made : goal.returns-clause-made
returns-clause-made g c =
    let steps = c.args.steps.now in
    let tree = c.loop-at.tree in
    let none : drop c.loop-at.at (numbered 1 steps) ≡ [] = drop_all c.loop-at.at (numbered 1 steps) (omega (arith, length-numbered 1 steps)) in
    record {
      on = λ rest ending state performs.
          c.loop-at.invariant.0 rest ending state
          (subst (λ (items : List (ℕ × List Planned)). Performs g.H.Host.tells g.H.Host.seen (λ t. running (plan_step (length steps)) items rest tree.db t) 0 tree.seen no_devices no_devices ending state) (sym none) performs);
    }

pub returns-clause-changes : goal.returns-clause-changes
returns-clause-changes g c =
    subst (λ (some : List (List Planned)). HasChanges c.args.tree.db c.loop-at.tree.db (left_in_all some)) (take_all c.loop-at.at c.args.steps.now (omega arith)) c.loop-at.invariant.1
