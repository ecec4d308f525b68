use Rattle.std.proofs.Common.{◌≡◌, ◌≤◌, ◌+◌, ◌∙◌, ap, ℕ, List, length, get_or, arith}
use Rattle.std.specs.Prelude.{min}
use Rattle.std.specs.Bool.{IsTrue}
use Rattle.tl_model.specs.Volume.{Volume}
use Rattle.tl_backup.specs.Asked.{tree_in}
use Rattle.tl_backup.specs.Frames.{size_at}
use Rattle.tl_backup.proofs.Making.{asked_join, asked_tree, short_step, total_step}
use Rattle.tl_backup.proofs.look.large_in.Goals as goal

pub returns-in_err-size-clause-asked : goal.returns-in_err-size-clause-asked
returns-in_err-size-clause-asked g c = asked_join _ _ _ _ c.loop-path.invariant.0 c.size_at.ensures.asked

pub returns-then-size-limit-clause-asked : goal.returns-then-size-limit-clause-asked
returns-then-size-limit-clause-asked g c = asked_join _ _ _ _ c.loop-path.invariant.0 c.size_at.ensures.asked

pub loop-path-preserved : goal.loop-path-preserved
loop-path-preserved g c =
    let tree = tree_in c.args.tree.now in
    let item = c.path-item.result in
    let size : IsTrue g.H.Host.tells → c.in_ok-size.size ≡ size_at tree (get_or c.args.paths.now c.loop-path.path-index item) =
    λ t. c.in_ok-size.ensures.size t ∙ ap (λ (v : Volume). size_at v item) (asked_tree _ _ _ c.loop-path.invariant.0 t) ∙ ap (λ (n : List ℕ). size_at tree n) c.path-item.is in
    let less : c.in_ok-size.size ≤ 268435456 = omega (arith, c.if-size-limit.false, c.limit.ensures) in (
      asked_join _ _ _ _ c.loop-path.invariant.0 c.size_at.ensures.asked,
      (λ t. short_step tree c.args.paths.now c.loop-path.path-index item c.loop-path-test.true (c.loop-path.invariant.1 t) (let is = size t in omega (arith, is, less))),
      (λ t. total_step tree c.args.paths.now (24 + length c.args.text.now) c.loop-path.path-index item c.loop-path.total c.saturating_add.result c.saturating_add-in-loop-path.result
          c.saturating_add-total-in-loop-path.result c.in_ok-size.size c.loop-path-test.true (c.loop-path.invariant.2 t) c.saturating_add.ensures
          (c.saturating_add-in-loop-path.ensures ∙ ap (λ (n : List ℕ). min (c.saturating_add.result + length n) 18446744073709551615) (c.bytes.ensures.bytes ∙ c.path-item.is))
          c.saturating_add-total-in-loop-path.ensures (size t)),
    )
