use Rattle.tl_model.specs.Pictures.{quiet_join}
use Rattle.tl_tree.proofs.step.ask_all.Goals as goal

pub returns-clause-same : goal.returns-clause-same
returns-clause-same g c t = quiet_join c.args.journal.now c.ask_sizes.new.journal c.ask_sizes-2.new.journal (c.in_ok-ask_sizes.ensures.same t) (c.ask_sizes-2.ensures.same t)
