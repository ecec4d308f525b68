use Rattle.std.proofs.Common.{arith}
use Rattle.tl_journal.specs.Reading.{body_at}
use Rattle.tl_journal.proofs.Fronts.{size_cut, size_short, size_long}
use Rattle.tl_journal.proofs.fields.size_at.Goals as goal

pub returns-then-not-branch-clause-size : goal.returns-then-not-branch-clause-size
returns-then-not-branch-clause-size g c t go = size_cut (body_at c.args.body.now.slot (g.H.Host.seen c.args.host.now)) c.args.from _ _ go (c.in_ok-front.ensures.taken t) c.if-not-branch.true

pub returns-then-size-from-clause-size : goal.returns-then-size-from-clause-size
returns-then-size-from-clause-size g c t go =
    let is = (c.requires.part t).size in
    let inside = c.in_ok-front.ensures.inside c.if-not-branch.false in
    let size = c.size.ensures in
    let same = c.front.ensures.same.size in
    size_short (body_at c.args.body.now.slot (g.H.Host.seen c.args.host.now)) c.args.from c.from_be_bytes-count.result _ _ go (c.in_ok-front.ensures.taken t) c.if-not-branch.false c.from_be_bytes-count.ensures (omega arith) (omega arith)

pub returns-clause-size : goal.returns-clause-size
returns-clause-size g c t go =
    let is = (c.requires.part t).size in
    let inside = c.in_ok-front.ensures.inside c.if-not-branch.false in
    let size = c.size.ensures in
    let same = c.front.ensures.same.size in
    size_long (body_at c.args.body.now.slot (g.H.Host.seen c.args.host.now)) c.args.from c.from_be_bytes-count.result _ _ go (c.in_ok-front.ensures.taken t) c.if-not-branch.false c.from_be_bytes-count.ensures (omega arith) (omega arith)
