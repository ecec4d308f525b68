use Rattle.tl_offer.proofs.OfferLemmas.{HasLoaded}
use Rattle.tl_offer.proofs.repos.load_repos.Given as goal

abbrev pub invariant-loop-place : goal.invariant-loop-place
invariant-loop-place g l = HasLoaded g.S.Shelf.tells l.repositories (g.S.Shelf.seen l.fn.shelf) (g.S.Shelf.seen l.shelf) l.place l.repos.items
