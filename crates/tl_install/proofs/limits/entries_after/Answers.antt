use Rattle.tl_install.proofs.LeftLemmas.{after_one}
use Rattle.tl_install.proofs.limits.entries_after.Goals as goal

pub loop-part-preserved : goal.loop-part-preserved
loop-part-preserved c =
    after_one c.args.repos.now c.args.step.now c.loop-part.part-index c.part-item.result c.args.db.now c.loop-part.next c.change_entries.new.db c.loop-part-test.true c.part-item.is c.loop-part.invariant c.in_ok-change_entries.ensures
