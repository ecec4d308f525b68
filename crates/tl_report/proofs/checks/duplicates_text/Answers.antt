use Rattle.std.proofs.Common.{map, ◌∙◌}
use Rattle.std.proofs.lemmas.Result.{IfOk-weaker}
use Rattle.tl_report.specs.Claims.{claim_by, claims}
use Rattle.tl_report.specs.Duplicates.{clashes}
use Rattle.tl_report.proofs.AnyLemmas.{same-in_order}
use Rattle.tl_report.proofs.ClashLemmas.{same-clashes}
use Rattle.tl_report.proofs.checks.duplicates_text.Goals as goal

pub returns-clause-text : goal.returns-clause-text
returns-clause-text c = IfOk-weaker c.into_text.result _ _ (λ text is. is ∙ same-in_order _ (clashes (claims c.args.db.now)) (λ line.
    c.in_ok-duplicates.ensures line ∙ same-clashes line (map (λ file. claim_by file.1.now file.0) c.in_ok-files.files.items) (claims c.args.db.now) c.in_ok-files.ensures)) c.into_text.ensures.text
