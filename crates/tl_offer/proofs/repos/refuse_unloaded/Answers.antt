use Rattle.std.proofs.Common.{◌≡◌, List, ℕ, Some, sym, ap, ◌∙◌, rules}
use Rattle.std.specs.Prelude.{option_map}
use Rattle.tl_repo.specs.Faults.{fault_of}
use Rattle.tl_offer.specs.Offered.{repo_refusal}
use Rattle.tl_offer.proofs.OfferLemmas.{ends_refused, ends_given_up}
use Rattle.tl_offer.proofs.repos.refuse_unloaded.Goals as goal

pub returns-in_default : goal.returns-in_default
returns-in_default g c = ends_given_up g.H.Host.tells g.H.Host.seen c.args.session c.give_up.result.ending c.give_up.result.state c.args.tag.now c.args.error c.give_up.ensures

pub returns-in-Some : goal.returns-in-Some
returns-in-Some g c =
    let same : c.in-Ok.repo ≡ c.args.tag.now = search rules in
    ends_refused g.H.Host.tells g.H.Host.seen c.args.session c.refuse.result.ending c.refuse.result.state c.args.tag.now c.args.error c.in-Some.refusal
    (sym c.in-Some.is ∙ c.refusal_of.ensures ∙ ap (λ (tag : List ℕ). option_map (repo_refusal tag) (fault_of c.args.error)) same) c.refuse.ensures.performs

pub returns-in-None : goal.returns-in-None
returns-in-None g c = ends_given_up g.H.Host.tells g.H.Host.seen c.args.session c.give_up-in-None.result.ending c.give_up-in-None.result.state c.args.tag.now c.args.error c.give_up-in-None.ensures
