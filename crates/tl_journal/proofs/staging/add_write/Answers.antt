use Rattle.tl_journal.specs.Touching.{only_join}
use Rattle.tl_journal.proofs.Live.{keeps_clean, tree_join}
use Rattle.tl_journal.proofs.staging.add_write.Goals as goal

pub add-requires-clause-clean : goal.add-requires-clause-clean
add-requires-clause-clean g c t = keeps_clean _ _ (c.add_head.ensures.keeps t) (c.requires.clean t)

pub returns-clause-keeps : goal.returns-clause-keeps
returns-clause-keeps g c t = tree_join _ _ _ (c.add_head.ensures.keeps t) (c.add.ensures.keeps t)

pub returns-clause-touches : goal.returns-clause-touches
returns-clause-touches g c t = only_join _ _ _ _ (c.add_head.ensures.touches t) (c.add.ensures.touches t)
