use Rattle.std.proofs.Common.{length, arith}
use Rattle.tl_journal.specs.Reading.{body_at}
use Rattle.tl_journal.proofs.Fronts.{front_short, front_is, if_ok_two}
use Rattle.tl_journal.proofs.fields.front.Goals as goal

pub returns-then-size-from-clause-taken : goal.returns-then-size-from-clause-taken
returns-then-size-from-clause-taken g c t place go =
    let is = (c.requires.part t).size in
    let size = c.size.ensures in
    front_short (body_at c.args.body.now.slot (g.H.Host.seen c.args.host.now)) (length c.args.into.now) c.args.from (omega arith) (omega arith) place go

pub returns-clause-taken : goal.returns-clause-taken
returns-clause-taken g c t =
    if_ok_two c.fill.result _ _ _ (λ whole is filled. front_is (body_at c.args.body.now.slot (g.H.Host.seen c.args.host.now)) (length c.args.into.now) c.args.from c.fill.new.into whole is filled) (c.fill.ensures.whole t) (c.fill.ensures.bytes t)
