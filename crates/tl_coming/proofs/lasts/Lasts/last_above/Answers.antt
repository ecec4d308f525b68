use Rattle.std.proofs.Common.{◌∙◌, arith}
use Rattle.tl_coming.proofs.LastLaws.{above_start, above_next, above_all}
use Rattle.tl_coming.proofs.lasts.Lasts.last_above.Goals as goal

pub loop-end-init : goal.loop-end-init
loop-end-init c noted are least = above_start least c.args.path.now noted

pub loop-end-preserved : goal.loop-end-preserved
loop-end-preserved c noted are =
    above_next c.args.path.now c.loop-end.end c.loop-end.last c.number_before.result c.max-last.result noted c.loop-end-test.true c.max-last.ensures (c.loop-end.invariant noted are)
    (c.number_before.ensures noted are)

pub returns : goal.returns
returns c noted are least = c.loop-end.invariant noted are least ∙ above_all c.args.path.now c.loop-end.end noted (let e = c.loop-end-test.false in omega (arith, e)) least
