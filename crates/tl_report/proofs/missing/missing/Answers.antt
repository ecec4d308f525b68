use Rattle.std.proofs.Common.{◌≡◌, List, ℕ, sym, subst, ap, ◌∙◌, arith, rules}
use Rattle.tl_model.specs.Lines.{IsLine}
use Rattle.tl_model.specs.Seen.{Moment}
use Rattle.tl_model.specs.Pictures.{quiet_join}
use Rattle.tl_journal_text.specs.Stand.{tree_of}
use Rattle.tl_object.proofs.PlainLemmas.{line_of_path}
use Rattle.tl_report.specs.Claims.{claim_by}
use Rattle.tl_report.proofs.MissingLemmas.{missing-there, missing-gone}
use Rattle.tl_report.proofs.missing.missing.Goals as goal
use Rattle.tl_report.proofs.missing.missing.Goals.{then-not-branch+in_ok-push, else-not-branch}

pub push-requires-clause-about : goal.push-requires-clause-about
push-requires-clause-about g c = subst (λ (line : List ℕ). IsLine line) (sym c.text-then-not-branch.ensures.text) (line_of_path _ c.text-then-not-branch.ensures.path)

pub returns-in_err-present-clause-same : goal.returns-in_err-present-clause-same
returns-in_err-present-clause-same g c t = quiet_join _ _ _ (c.loop-file.invariant.same t) (c.in_err-present.ensures.same t)

pub returns-in_err-push-clause-same : goal.returns-in_err-push-clause-same
returns-in_err-push-clause-same g c t = quiet_join _ _ _ (c.loop-file.invariant.same t) (c.in_ok-present.ensures.same t)

pub loop-file-preserved : goal.loop-file-preserved
loop-file-preserved g c =
    let tree = tree_of c.args.tree.now.seen.present.held in
    let now = tree_of c.loop-file.tree.seen.present.held in
    record {
      lines = λ t.
          let same : now ≡ tree = ap (λ (m : Moment). tree_of m.held) (c.loop-file.invariant.same t).present in
          elim c.if-not-branch.branch [
            | then-not-branch+in_ok-push w ↦ missing-gone (λ file. claim_by file.1.now file.0) tree now c.args.files.now c.loop-file.file-index c.file-item.result c.loop-file-test.true c.file-item.is c.in_ok-present.field-0 same (c.in_ok-present.ensures.there t)
                c.loop-file.lines c.if-not-branch.lines w.text.result.now w.text-then-not-branch.result.now (search rules) w.text.ensures.text w.text-then-not-branch.ensures.text (w.lines-is ∙ w.in_ok-push.ensures) (c.loop-file.invariant.lines t)
            | else-not-branch w ↦ w.lines-is ∙ missing-there (λ file. claim_by file.1.now file.0) tree now c.args.files.now c.loop-file.file-index c.file-item.result c.loop-file-test.true c.file-item.is c.in_ok-present.field-0 same (c.in_ok-present.ensures.there t)
                c.loop-file.lines (search rules) (c.loop-file.invariant.lines t)
          ];
      same = λ t. quiet_join _ _ _ (c.loop-file.invariant.same t) (c.in_ok-present.ensures.same t);
      db = c.in_ok-present.ensures.db ∙ c.loop-file.invariant.db;
      later = omega (arith, c.loop-file.invariant.later, c.in_ok-present.ensures.cause.later);
    }
