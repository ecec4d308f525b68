use Rattle.std.proofs.Common.{arith, None, Some}
use Rattle.tl_text.specs.Spans.{stretches}
use Rattle.tl_marks.proofs.ReadLemmas.{others_rising}
use Rattle.tl_marks.proofs.FormLemmas.{marks_formed, found_formed}
use Rattle.tl_marks.proofs.reading.read_behind.Goals as goal

pub paths_in-requires-clause-rising : goal.paths_in-requires-clause-rising
paths_in-requires-clause-rising c = others_rising _ c.args.spans.now c.in-Some.others.now c.in-Some.line.now c.in-Some.ensures.cases.0 c.requires.rising

pub of-requires-in-Some-2 : goal.of-requires-in-Some-2
of-requires-in-Some-2 c =
    marks_formed c.args.counter 3 (Some c.in-Some-2.marked) (stretches c.args.text.now c.in-Some.others.now) c.in_ok-paths-in-Some.paths.items (omega (arith, c.ranges.counter.fits))
    (found_formed c.args.counter c.of-in-Some.result.now c.in_ok-marked-in-Some.field-0 c.in-Some-2.marked c.in_ok-marked-in-Some.ensures c.in-Some-2.is) c.in_ok-paths-in-Some.ensures.paths

pub of-requires-in_default : goal.of-requires-in_default
of-requires-in_default c =
    marks_formed c.args.counter 2 None (stretches c.args.text.now c.args.spans.now) c.in_ok-paths-in_default.paths.items (omega (arith, c.ranges.counter.fits)) tt c.in_ok-paths-in_default.ensures.paths
