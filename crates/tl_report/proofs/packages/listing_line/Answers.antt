use Rattle.std.proofs.Common.{◌≡◌, List, ℕ, sym, subst, rules}
use Rattle.std.specs.Prelude.{string_bytes, IfOk}
use Rattle.std.proofs.lemmas.Result.{IfOk-weaker}
use Rattle.tl_report.specs.Lines.{IsReportLine}
use Rattle.tl_report.specs.Info.{listing_line}
use Rattle.tl_report.proofs.NamedLines.{report-listing_line}
use Rattle.tl_report.proofs.packages.listing_line.Goals as goal

pub returns-clause-report : goal.returns-clause-report
returns-clause-report c =
    let is : IfOk c.format.result (λ line. string_bytes line ≡ listing_line c.args.installed.now c.args.entry.now) = search rules in
    IfOk-weaker c.format.result _ _ (λ line e. subst (λ (l : List ℕ). IsReportLine l) (sym e) (report-listing_line c.args.installed.now c.args.entry.now c.text-name.ensures.name c.shortdesc_of-shortdesc.ensures.line)) is
