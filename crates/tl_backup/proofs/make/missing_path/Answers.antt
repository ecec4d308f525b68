use Rattle.std.proofs.Common.{◌∙◌, ap, ℕ, List}
use Rattle.std.specs.Option.{is_some}
use Rattle.tl_model.specs.Volume.{Volume, at}
use Rattle.tl_backup.specs.Asked.{tree_in}
use Rattle.tl_backup.proofs.Making.{asked_join, asked_of, asked_tree, missing_step}
use Rattle.tl_backup.proofs.make.missing_path.Goals as goal

pub returns-in_err-present-clause-asked : goal.returns-in_err-present-clause-asked
returns-in_err-present-clause-asked g c = asked_join _ _ _ _ c.loop-path.invariant.0 (asked_of _ _ _ c.present.ensures.same c.present.ensures.db c.present.ensures.cause.later)

pub returns-then-not-branch-clause-asked : goal.returns-then-not-branch-clause-asked
returns-then-not-branch-clause-asked g c = asked_join _ _ _ _ c.loop-path.invariant.0 (asked_of _ _ _ c.present.ensures.same c.present.ensures.db c.present.ensures.cause.later)

pub loop-path-preserved : goal.loop-path-preserved
loop-path-preserved g c = (
  asked_join _ _ _ _ c.loop-path.invariant.0 (asked_of _ _ _ c.present.ensures.same c.present.ensures.db c.present.ensures.cause.later),
  λ t. c.loop-path.invariant.1 t ∙ missing_step (tree_in c.args.tree.now) c.args.paths.now c.loop-path.path-index c.path-item.result c.in_ok-present.field-0 c.loop-path-test.true
      (c.in_ok-present.ensures.there t ∙ ap (λ (v : Volume). is_some (at v c.path-item.result)) (asked_tree _ _ _ c.loop-path.invariant.0 t) ∙ ap (λ (n : List ℕ). is_some (at (tree_in c.args.tree.now) n)) c.path-item.is)
      c.if-not-branch.false,
)
