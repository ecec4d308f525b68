use Rattle.std.proofs.Common.{◌≡◌, List, Some, subst}
use Rattle.std.specs.Prelude.{IfOk, IfErr}
use Rattle.tl_db.specs.declared.repo.Repo.{Repo}
use Rattle.tl_report.specs.Offers.{IsUnreported, candidates_text}
use Rattle.tl_show.proofs.offers.say_candidates.Goals as goal

pub returns : goal.returns
returns g c =
    let pins = c.args.offer.now.pins in
    let report = c.candidates-report.result in
    c.tell.ensures (candidates_text pins c.args.offer.now.repos.items c.args.name)
    (subst (λ (repos : List Repo). IfOk report (λ text. candidates_text pins repos c.args.name ≡ Some text.items)) c.deref.ensures.value c.candidates-report.ensures.text)
    (subst (λ (repos : List Repo). IfErr report (IsUnreported (candidates_text pins repos c.args.name))) c.deref.ensures.value c.candidates-report.ensures.error)
