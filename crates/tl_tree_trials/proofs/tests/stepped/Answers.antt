use Rattle.tl_tree_trials.proofs.tests.stepped.Goals as goal

pub step-requires-clause-change : goal.step-requires-clause-change
step-requires-clause-change g c = c.in-Ok.ensures.change c.args.tree.db
