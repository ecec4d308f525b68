use Rattle.tl_tree.proofs.Sets.{put_in}
use Rattle.tl_tree.proofs.waiting.Waiting.new.Goals as goal

pub loop-path-preserved : goal.loop-path-preserved
loop-path-preserved c = put_in c.loop-path.set.keys c.insert.new.self.keys c.loop-path.yielded c.in-Some.path c.in_ok-insert.ensures.updates.0 c.loop-path.invariant
