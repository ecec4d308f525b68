use Rattle.std.proofs.Common.{◌∙◌, sym}
use Rattle.tl_written.proofs.FindLemmas.{cut-once}
use Rattle.tl_written.proofs.LineLemmas.{cut_there, uncut}
use Rattle.tl_written.proofs.lines.cut_at.Goals as goal

pub returns-in_err-end-clause-finds : goal.returns-in_err-end-clause-finds
returns-in_err-end-clause-finds c = λ front rest is same. absurd (uncut c.args.mark c.args.text.now c.in_err-end.ensures front rest same)

pub returns-clause-stands : goal.returns-clause-stands
returns-clause-stands c = cut_there c.args.mark c.args.text.now c.in_ok-end.end c.in_ok-end.ensures

pub returns-clause-finds : goal.returns-clause-finds
returns-clause-finds c = λ front rest is same.
    let there = cut_there c.args.mark c.args.text.now c.in_ok-end.end c.in_ok-end.ensures in
    cut-once c.args.mark _ front _ rest there.1 is (sym there.0 ∙ same)
