use Rattle.std.proofs.Common.{◌≡◌, ◌∷◌, ◌++◌, Some, sym, ap, ◌∙◌}
use Rattle.std.specs.Prelude.{option_map}
use Rattle.std.proofs.lemmas.Result.{IfOk-weaker}
use Rattle.tl_db.specs.declared.repo.Repo.{Repo}
use Rattle.tl_pin.specs.Candidates.{candidate_of}
use Rattle.tl_report.specs.Info.{revision_text}
use Rattle.tl_report.proofs.OfferLines.{place_and_revision, place-within, candidate-said}
use Rattle.tl_report.proofs.facts.candidate_text.Goals as goal

pub bounds-repos-place : goal.bounds-repos-place
bounds-repos-place c = place-within c.args.pins.now c.args.repos.now c.args.name.now c.in-Some.place c.in-Some.revision (sym c.in-Some.is ∙ c.candidate.ensures)

pub returns-in-Some-clause-text : goal.returns-in-Some-clause-text
returns-in-Some-clause-text c =
    let is : Some (c.in-Some.place, c.in-Some.revision) ≡ option_map place_and_revision (candidate_of c.args.pins.now c.args.repos.now c.args.name.now) = sym c.in-Some.is ∙ c.candidate.ensures in
    let repo = c.index-repos-place.result in
    IfOk-weaker c.offer_text.result _ _ (λ text e. e ∙ ap (λ (r : Repo). r.tag ++ 32 ∷ revision_text c.in-Some.revision) (sym c.index-repos-place.is)
    ∙ candidate-said c.args.repos.now (candidate_of c.args.pins.now c.args.repos.now c.args.name.now) c.in-Some.place c.in-Some.revision repo is
    (place-within c.args.pins.now c.args.repos.now c.args.name.now c.in-Some.place c.in-Some.revision is) c.index-repos-place.is) c.offer_text.ensures.text
