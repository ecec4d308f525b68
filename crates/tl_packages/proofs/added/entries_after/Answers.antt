use Rattle.tl_packages.proofs.PlanLaws.{after_planned}
use Rattle.tl_packages.proofs.added.entries_after.Goals as goal

pub loop-part-preserved : goal.loop-part-preserved
loop-part-preserved c =
    after_planned c.args.step.now c.loop-part.part-index c.part-item.result c.args.db.now c.loop-part.next c.change_entries.new.db c.loop-part-test.true c.part-item.is c.loop-part.invariant c.change_entries.ensures
