use Rattle.std.proofs.Common.{arith}
use Rattle.tl_tree.proofs.AfterParts.{after_more}
use Rattle.tl_tree.proofs.entries.change_entries.Goals as goal

pub loop-part-preserved : goal.loop-part-preserved
loop-part-preserved c =
    after_more c.args.parts.now c.loop-part.part-index c.part-item.result c.args.db.now c.loop-part.db c.change_entry.new.db (omega arith) c.part-item.is c.loop-part.invariant c.in_ok-change_entry.ensures
