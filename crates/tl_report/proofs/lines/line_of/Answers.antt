use Rattle.std.proofs.Common.{◌≡◌, List, ℕ, sym, subst, rules}
use Rattle.std.specs.Prelude.{string_bytes, IfOk}
use Rattle.std.proofs.lemmas.Result.{IfOk-weaker}
use Rattle.tl_report.specs.Lines.{IsReportLine, line_of}
use Rattle.tl_report.proofs.LineLemmas.{report-line_of}
use Rattle.tl_report.proofs.lines.line_of.Goals as goal

pub returns-clause-report : goal.returns-clause-report
returns-clause-report c =
    let is : IfOk c.format.result (λ line. string_bytes line ≡ line_of c.args.finding c.args.thing.now c.args.about.now) = search rules in
    IfOk-weaker c.format.result _ _ (λ line e. subst (λ (l : List ℕ). IsReportLine l) (sym e) (report-line_of c.args.finding c.args.thing.now c.args.about.now c.requires.thing c.requires.about)) is
