use Rattle.std.proofs.Common.{arith}
use Rattle.tl_marks.proofs.ReadLemmas.{others_rising, few_others}
use Rattle.tl_marks.proofs.marks.Marks.read.Goals as goal

pub read_behind-requires-clause-rising : goal.read_behind-requires-clause-rising
read_behind-requires-clause-rising c =
    others_rising _ c.deref.result.now c.in-Some.others.now c.in-Some.first.now c.in-Some.ensures.cases.0 (rw c.deref.ensures.value c.in_ok-spans.ensures.rising)

pub read_behind-requires-clause-few : goal.read_behind-requires-clause-few
read_behind-requires-clause-few c =
    let few = few_others c.args.text.now c.deref.result.now c.in-Some.others.now c.in-Some.first.now c.in-Some.ensures.cases.0 (rw c.deref.ensures.value c.in_ok-spans.ensures.lines) in
    omega (arith, few, c.requires)
