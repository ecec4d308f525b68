use Rattle.std.proofs.Common.{◌∙◌, sym, arith}
use Rattle.tl_touch.proofs.Touching.{none_above, one_above}
use Rattle.tl_touch.proofs.set.PathSet.has_above.Goals as goal

pub returns-then-has : goal.returns-then-has
returns-then-has c =
    sym (one_above c.args.path.now c.args.self.now c.loop-end.end c.loop-end-test.true c.if-byte-eq47.true (sym c.has.ensures ∙ c.if-has.true))

pub returns : goal.returns
returns c =
    sym (none_above c.args.path.now c.args.self.now (λ k less slash. c.loop-end.invariant k (let end = c.loop-end-test.false in omega (arith, less, end)) slash))
