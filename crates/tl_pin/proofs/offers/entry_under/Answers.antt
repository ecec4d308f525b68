use Rattle.std.proofs.Common.{◌∙◌, sym}
use Rattle.tl_pin.proofs.OfferLemmas.{under_more, under_at}
use Rattle.tl_pin.proofs.offers.entry_under.Goals as goal

pub loop-at-preserved : goal.loop-at-preserved
loop-at-preserved c =
    under_more c.args.repos.now c.args.tag.now c.args.name.now c.loop-at.at c.index-repos-at.result _ c.loop-at-test.true c.index-repos-at.is
    (sym (rw c.bytes.ensures.bytes at c.eq.ensures) ∙ c.if-eq.false) c.loop-at.invariant

pub returns-in-Some-clause-entry : goal.returns-in-Some-clause-entry
returns-in-Some-clause-entry c =
    under_at c.args.repos.now c.args.tag.now c.args.name.now c.loop-at.at c.index-repos-at.result _ _ c.loop-at-test.true c.index-repos-at.is
    (sym (rw c.bytes.ensures.bytes at c.eq.ensures) ∙ c.if-eq.true) c.in-Some.ensures c.loop-at.invariant
