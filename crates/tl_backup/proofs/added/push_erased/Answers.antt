use Rattle.tl_backup.proofs.Adding.{erased_step}
use Rattle.tl_backup.proofs.added.push_erased.Goals as goal

pub loop-backup-preserved : goal.loop-backup-preserved
loop-backup-preserved c =
    erased_step c.args.gone.now c.loop-backup.backup-index c.backup-item.result c.in_ok-erasing.field-0 c.args.parts.now.items c.loop-backup.parts.items c.push_part.new.parts.items
    c.loop-backup-test.true c.backup-item.is c.in_ok-erasing.ensures.part c.in_ok-erasing.ensures.named c.loop-backup.invariant.0 c.loop-backup.invariant.1 c.in_ok-push_part.ensures
