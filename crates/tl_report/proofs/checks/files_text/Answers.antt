use Rattle.std.proofs.Common.{◌≡◌, map, ap, ◌∙◌}
use Rattle.tl_model.specs.Volume.{Volume}
use Rattle.tl_model.specs.Seen.{Moment}
use Rattle.tl_model.specs.Pictures.{quiet_join}
use Rattle.tl_journal_text.specs.Stand.{tree_of}
use Rattle.tl_report.specs.Lines.{in_order}
use Rattle.tl_report.specs.Claims.{claim_by, claims}
use Rattle.tl_report.specs.Missing.{missing_among}
use Rattle.tl_report.proofs.AnyLemmas.{same-in_order}
use Rattle.tl_report.proofs.MissingLemmas.{same-missing, found-as}
use Rattle.tl_report.proofs.checks.files_text.Goals as goal

pub returns-clause-text : goal.returns-clause-text
returns-clause-text g c t =
    let tree = tree_of c.args.tree.now.seen.present.held in
    let now = tree_of c.unmet.new.tree.seen.present.held in
    let same : now ≡ tree = ap (λ (m : Moment). tree_of m.held) (c.unmet.ensures.same t).present in
    c.in_ok-into_text.ensures.text
    ∙ ap in_order (c.in_ok-lines.ensures.lines t ∙ ap (λ (v : Volume). missing_among v (map (λ file. claim_by file.1.now file.0) c.deref.result.now)) same)
    ∙ same-in_order _ _ (λ line. same-missing tree line (map (λ file. claim_by file.1.now file.0) c.deref.result.now) (claims c.args.tree.now.db)
    (found-as (λ file. claim_by file.1.now file.0) tree c.deref.result.now c.in_ok-doubtful.doubtful.items c.in_ok-files.files.items c.deref.ensures.value c.in_ok-db.db c.args.tree.now.db (c.in_ok-db.ensures ∙ c.db.ensures)
    (c.in_ok-doubtful.ensures.gone t) c.in_ok-files.ensures))

pub returns-in_err-lines-clause-same : goal.returns-in_err-lines-clause-same
returns-in_err-lines-clause-same g c t = quiet_join _ _ _ (c.unmet.ensures.same t) (c.missing.ensures.same t)

pub returns-in_err-into_text-clause-same : goal.returns-in_err-into_text-clause-same
returns-in_err-into_text-clause-same g c t = quiet_join _ _ _ (c.unmet.ensures.same t) (c.missing.ensures.same t)

pub returns-clause-same : goal.returns-clause-same
returns-clause-same g c t = quiet_join _ _ _ (c.unmet.ensures.same t) (c.missing.ensures.same t)
