use Rattle.std.proofs.Common.{ap, map}
use Rattle.tl_backup.specs.Form.{backup_by}
use Rattle.tl_backup.proofs.Adding.{pruned_step}
use Rattle.tl_backup.proofs.added.pruning.Goals as goal

pub loop-name-init : goal.loop-name-init
loop-name-init c = (c.new-parts.ensures.items, ap (map backup_by) c.new-parts.ensures.items)

pub loop-name-preserved : goal.loop-name-preserved
loop-name-preserved c =
    pruned_step c.args.keep c.args.names.now c.args.db.now c.args.backups.now c.loop-name.name-index c.name-item.result c.loop-name.parts.items c.push_pruned.new.parts.items
    c.loop-name-test.true c.name-item.is c.loop-name.invariant.0 c.loop-name.invariant.1 c.in_ok-push_pruned.ensures.parts c.in_ok-push_pruned.ensures.named
