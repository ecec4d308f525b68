use Rattle.tl_tree.proofs.Steps.{made_of, halted_of, halted_early}
use Rattle.tl_tree.proofs.stage.make.Goals as goal

pub returns-in-Err-clause-halted : goal.returns-in-Err-clause-halted
returns-in-Err-clause-halted g c t = halted_early c.args.staging (g.H.Host.seen c.in-Err.lost.host) (c.in-Err.ensures.commits t)

pub returns-in-Ok-apply-clause-made : goal.returns-in-Ok-apply-clause-made
returns-in-Ok-apply-clause-made g c t =
    made_of c.args.staging c.in-Ok.committed c.in-Ok-apply.applied c.close.result c.close.ensures
    (c.in-Ok.ensures.committed t) (c.in-Ok.ensures.commits t) (c.in-Ok-apply.ensures.tree t) (c.in-Ok-apply.ensures.carries_out t)

pub returns-in-Ok-apply-clause-halted : goal.returns-in-Ok-apply-clause-halted
returns-in-Ok-apply-clause-halted g c t =
    halted_of c.args.staging c.in-Ok.committed c.in-Ok-apply.applied c.close.result c.close.ensures
    (c.in-Ok.ensures.committed t) (c.in-Ok.ensures.commits t) (c.in-Ok-apply.ensures.carries_out t)

pub returns-in-Err-apply-clause-halted : goal.returns-in-Err-apply-clause-halted
returns-in-Err-apply-clause-halted g c t =
    let last = g.H.Host.seen c.in-Err-apply.lost.host in
    halted_of c.args.staging c.in-Ok.committed last last (λ i. last)
    (c.in-Ok.ensures.committed t) (c.in-Ok.ensures.commits t) (c.in-Err-apply.ensures.carries_out t)
