use Rattle.std.proofs.Common.{subst}
use Rattle.tl_model.specs.Seen.{Seen}
use Rattle.tl_offer.specs.Offered.{EndsUnloaded}
use Rattle.tl_offer.proofs.OfferLemmas.{ends_stopped}
use Rattle.tl_offer.proofs.repos.end_unloaded.Goals as goal

pub returns-in-ShelfFault : goal.returns-in-ShelfFault
returns-in-ShelfFault g c =
    subst (λ (s : Seen). EndsUnloaded g.H.Host.tells g.H.Host.seen c.args.tag.now c.args.error s c.stop_at_shelf.result.ending c.stop_at_shelf.result.state) c.of_tree-session.ensures
    (ends_stopped g.H.Host.tells g.H.Host.seen c.of_tree-session.result c.stop_at_shelf.result.ending c.stop_at_shelf.result.state c.args.tag.now c.args.error c.in-ShelfFault.is c.stop_at_shelf.ensures)

pub returns-in_default : goal.returns-in_default
returns-in_default g c =
    subst (λ (s : Seen). EndsUnloaded g.H.Host.tells g.H.Host.seen c.args.tag.now c.args.error s c.refuse_unloaded.result.ending c.refuse_unloaded.result.state) c.of_tree-session.ensures c.refuse_unloaded.ensures
