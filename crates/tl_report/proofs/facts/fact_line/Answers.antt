use Rattle.std.proofs.Common.{◌≡◌, List, ℕ, sym, subst, rules}
use Rattle.std.specs.Prelude.{string_bytes, IfOk}
use Rattle.std.proofs.lemmas.Result.{IfOk-weaker}
use Rattle.tl_report.specs.Info.{known_line}
use Rattle.tl_report.specs.Lines.{IsReportLine}
use Rattle.tl_report.proofs.NamedLines.{report-fact_line}
use Rattle.tl_report.proofs.facts.fact_line.Goals as goal

pub returns-clause-report : goal.returns-clause-report
returns-clause-report c =
    let is : IfOk c.format.result (λ line. string_bytes line ≡ known_line c.args.fact c.args.about.now) = search rules in
    IfOk-weaker c.format.result _ _ (λ line e. subst (λ (l : List ℕ). IsReportLine l) (sym e) (report-fact_line c.args.fact c.args.about.now c.requires)) is
