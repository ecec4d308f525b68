use Rattle.tl_coming.proofs.LastLaws.{above_slash, above_other}
use Rattle.tl_coming.proofs.lasts.Lasts.number_before.Goals as goal

pub returns-then-path-end-eq47 : goal.returns-then-path-end-eq47
returns-then-path-end-eq47 c noted are least = above_slash c.args.path.now c.args.end c.number_at.result noted c.args.self.now c.if-path-end-eq47.true c.number_at.ensures are least

pub returns-else-path-end-eq47 : goal.returns-else-path-end-eq47
returns-else-path-end-eq47 c noted are least = above_other c.args.path.now c.args.end noted c.if-path-end-eq47.false least
