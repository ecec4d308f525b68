use Rattle.std.proofs.Common.{◌≡◌, List, ℕ, sym, subst, rules, arith}
use Rattle.std.specs.Prelude.{string_bytes, IfOk}
use Rattle.std.proofs.lemmas.Result.{IfOk-weaker}
use Rattle.tl_model.specs.Lines.{IsLine}
use Rattle.tl_report.specs.Info.{revision_text}
use Rattle.tl_report.proofs.NamedLines.{line_of_revision}
use Rattle.tl_report.proofs.facts.revision_text.Goals as goal

pub returns-clause-line : goal.returns-clause-line
returns-clause-line c =
    let is : IfOk c.format.result (λ text. string_bytes text ≡ revision_text c.args.revision) = search rules in
    IfOk-weaker c.format.result _ _ (λ text e. subst (λ (l : List ℕ). IsLine l) (sym e) (line_of_revision c.args.revision (omega arith))) is
