use Rattle.std.proofs.Common.{◌≡◌, List, ℕ, sym, subst, rules, arith}
use Rattle.std.specs.Prelude.{string_bytes}
use Rattle.tl_report.specs.Lines.{IsReportLine}
use Rattle.tl_report.specs.Offers.{offer_line}
use Rattle.tl_report.proofs.NamedLines.{report-offer_line}
use Rattle.tl_report.proofs.offers.offer_line.Goals as goal

pub returns-clause-report : goal.returns-clause-report
returns-clause-report c =
    let is : string_bytes c.push_str.new.self ≡ offer_line c.args.tag.now c.args.revision c.args.marked = search rules in
    subst (λ (l : List ℕ). IsReportLine l) (sym is) (report-offer_line c.args.tag.now c.args.revision c.args.marked c.offer_text.ensures.tag (omega arith))
