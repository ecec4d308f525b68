use Rattle.std.proofs.Common.{◌≡◌, List, Some, subst}
use Rattle.std.specs.Prelude.{IfOk, IfErr}
use Rattle.tl_db.specs.declared.repo.Repo.{Repo}
use Rattle.tl_report.specs.Info.{package_text}
use Rattle.tl_report.specs.Offers.{IsUnreported}
use Rattle.tl_show.proofs.packages.say_package.Goals as goal

pub returns : goal.returns
returns g c =
    let pins = c.args.offer.now.pins in
    let db = c.args.tree.db in
    let report = c.info-report.result in
    c.tell.ensures (package_text pins c.args.offer.now.repos.items db c.args.name)
    (subst (λ (repos : List Repo). IfOk report (λ text. package_text pins repos db c.args.name ≡ Some text.items)) c.deref.ensures.value c.info-report.ensures.text)
    (subst (λ (repos : List Repo). IfErr report (IsUnreported (package_text pins repos db c.args.name))) c.deref.ensures.value c.info-report.ensures.error)
