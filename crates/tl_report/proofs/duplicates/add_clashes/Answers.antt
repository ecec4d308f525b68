use Rattle.std.proofs.Common.{◌++◌, List, ℕ, sym, ap, ◌∙◌}
use Rattle.std.proofs.lemmas.List.{append-nil}
use Rattle.tl_report.specs.Claims.{claim_by}
use Rattle.tl_report.proofs.ClashLemmas.{next-apart, next-line, next-none, apart_from, same_from}
use Rattle.tl_report.proofs.duplicates.add_clashes.Goals as goal
use Rattle.tl_report.proofs.duplicates.add_clashes.Goals.{then-lt+in_ok-add_line, else-lt}

pub returns-then-ne : goal.returns-then-ne
returns-then-ne c =
    sym (append-nil c.loop-other.lines)
    ∙ ap (λ (lines : List (List ℕ)). c.loop-other.lines ++ lines)
    (sym (next-apart (λ other. claim_by other.1.now other.0) (claim_by c.args.owner.now c.args.path.now) c.args.behind.now c.loop-other.other-index c.other-item.result c.loop-other-test.true c.other-item.is
    (apart_from c.args.path.now c.other-item.result.0 c.ne.result c.ne.ensures c.if-ne.true)))
    ∙ c.loop-other.invariant

pub loop-other-preserved : goal.loop-other-preserved
loop-other-preserved c =
    let same = same_from c.args.path.now c.other-item.result.0 c.ne.result c.ne.ensures c.if-ne.false in
    elim c.if-lt.branch [
      | then-lt+in_ok-add_line w ↦ next-line (λ other. claim_by other.1.now other.0) (claim_by c.args.owner.now c.args.path.now) c.args.behind.now c.loop-other.other-index c.other-item.result c.loop-other-test.true c.other-item.is
          same (sym c.lt.ensures ∙ w.if-lt.true) c.loop-other.lines c.if-lt.lines (w.lines-is ∙ w.in_ok-add_line.ensures) ∙ c.loop-other.invariant
      | else-lt w ↦ next-none (λ other. claim_by other.1.now other.0) (claim_by c.args.owner.now c.args.path.now) c.args.behind.now c.loop-other.other-index c.other-item.result c.loop-other-test.true c.other-item.is
          same (sym c.lt.ensures ∙ w.if-lt.false) c.loop-other.lines c.if-lt.lines w.lines-is ∙ c.loop-other.invariant
    ]
