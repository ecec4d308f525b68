use Rattle.std.proofs.Common.{Err, refl}
use Rattle.tl_offer.proofs.OfferLemmas.{loaded_none}
use Rattle.tl_offer.proofs.repos.load_repos.Goals as goal

pub returns-in-Err-clause-read : goal.returns-in-Err-clause-read
returns-in-Err-clause-read g c =
    let s = g.S.Shelf.seen in
    loaded_none g.S.Shelf.tells c.args.repositories.now (s c.args.shelf.now) (s c.loop-place.shelf) (s c.load.new.shelf) c.loop-place.place c.index-repositories-place.result c.loop-place.repos.items c.loop-place.invariant
    c.loop-place-test.true c.index-repositories-place.is (Err c.in-Err.error) c.in-Err.ensures.repo c.in-Err.error refl
