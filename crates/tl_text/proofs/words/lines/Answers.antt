use Rattle.std.proofs.Common.{arith, rules}
use Rattle.tl_text.proofs.Runs.{lines_more, lines_cut, lines_done}
use Rattle.tl_text.proofs.words.lines.Goals as goal
use Rattle.tl_text.proofs.words.lines.Goals.{then-b-eq10+in_ok-push, else-b-eq10}

pub loop-i-preserved : goal.loop-i-preserved
loop-i-preserved c =
    elim c.if-b-eq10.branch [
      | then-b-eq10+in_ok-push w ↦ rw (w.spans-is, w.start-is, w.in_ok-push.ensures.items) (lines_cut c.args.text.now c.loop-i.spans.items c.loop-i.start c.loop-i.i (omega arith) (search rules) c.loop-i.invariant)
      | else-b-eq10 w ↦ rw (w.spans-is, w.start-is) (lines_more c.args.text.now c.loop-i.spans.items c.loop-i.start c.loop-i.i (omega arith) (search rules) c.loop-i.invariant)
    ]

pub returns-clause-lines : goal.returns-clause-lines
returns-clause-lines c = rw c.in_ok-push_run.ensures (lines_done c.args.text.now c.loop-i.spans.items c.loop-i.start c.loop-i.i (omega arith) c.loop-i.invariant).texts

pub returns-clause-places : goal.returns-clause-places
returns-clause-places c = rw c.in_ok-push_run.ensures (lines_done c.args.text.now c.loop-i.spans.items c.loop-i.start c.loop-i.i (omega arith) c.loop-i.invariant).places

pub returns-clause-rising : goal.returns-clause-rising
returns-clause-rising c = rw c.in_ok-push_run.ensures (lines_done c.args.text.now c.loop-i.spans.items c.loop-i.start c.loop-i.i (omega arith) c.loop-i.invariant).rising
