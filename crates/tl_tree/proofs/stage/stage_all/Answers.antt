use Rattle.tl_tree.proofs.stage.stage_all.Goals as goal

pub returns-in-Err-stage_removes-clause-stages : goal.returns-in-Err-stage_removes-clause-stages
returns-in-Err-stage_removes-clause-stages g c t = c.in-Err-stage_removes.ensures.keeps t c.args.journal (c.in-Ok.ensures.stages t)

pub returns-clause-stages : goal.returns-clause-stages
returns-clause-stages g c t = c.stage_writes.ensures.keeps t c.args.journal (c.in-Ok-stage_removes.ensures.keeps t c.args.journal (c.in-Ok.ensures.stages t))
