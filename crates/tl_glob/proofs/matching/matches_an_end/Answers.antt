use Rattle.std.proofs.Common.{sym, ◌∙◌, arith}
use Rattle.tl_glob.proofs.Walks.{star, taken, ended}
use Rattle.tl_glob.proofs.matching.matches_an_end.Goals as goal

pub loop-byte-preserved-then-part-eq42 : goal.loop-byte-preserved-then-part-eq42
loop-byte-preserved-then-part-eq42 c = record {
  walk = star _ _ _ _ _ _ _ c.in-Some-split_first.ensures.cases.0 c.if-part-eq42.true c.loop-byte.invariant.walk;
  first_short = omega (arith, c.in-Some-split_first.ensures.cases.1, c.loop-byte.invariant.short);
  short = omega (arith, c.in-Some-split_first.ensures.cases.1, c.loop-byte.invariant.short);
}

pub loop-byte-preserved-then-takes : goal.loop-byte-preserved-then-takes
loop-byte-preserved-then-takes c = record {
  walk = taken _ _ _ _ _ _ _ _ _ c.in-Some-split_first.ensures.cases.0 c.in-Some.ensures.cases.0 c.if-part-eq42.false (sym c.takes.ensures ∙ c.if-takes.true) c.loop-byte.invariant.walk;
  first_short = c.loop-byte.invariant.first_short;
  short = omega (arith, c.in-Some-split_first.ensures.cases.1, c.loop-byte.invariant.short);
}

pub returns : goal.returns
returns c = c.has_stars_alone.ensures ∙ ended _ _ _ _ _ c.in_default.ensures.cases c.loop-byte.invariant.walk
