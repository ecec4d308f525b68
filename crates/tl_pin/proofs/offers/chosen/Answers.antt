use Rattle.std.proofs.Common.{◌≡◌, ℕ, Option, Some, None, subst}
use Rattle.std.specs.Prelude.{MatchOption}
use Rattle.tl_entry.specs.declared.object.Object.{Object}
use Rattle.tl_pin.proofs.OfferLemmas.{offer_end}
use Rattle.tl_pin.proofs.offers.chosen.Goals as goal

pub returns-clause-entry : goal.returns-clause-entry
returns-clause-entry c =
    subst (λ (o : Option (ℕ × Object)). MatchOption c.entry_under-2.result (o ≡ None) (λ found. o ≡ Some (found.0, found.1.now)))
    (offer_end c.deref-pin-items.result.now c.args.repos.now c.args.name.now c.loop-pin.pin-index _ c.loop-pin-test.false c.loop-pin.invariant) c.entry_under-2.ensures.entry
