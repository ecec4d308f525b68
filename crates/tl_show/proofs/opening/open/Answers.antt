use Rattle.std.proofs.lemmas.Result.{IfOk-weaker, IfErr-weaker}
use Rattle.tl_show.proofs.OpenLemmas.{performs_unopened, performs_unoffered}
use Rattle.tl_show.proofs.opening.open.Goals as goal

pub returns-in-Ok-clause-opened : goal.returns-in-Ok-clause-opened
returns-in-Ok-clause-opened g c =
    IfOk-weaker c.load_offer.result _ _ (λ found offer. record { loaded = c.in-Ok.tree; loads = c.in-Ok.ensures.loaded; offer = offer }) c.load_offer.ensures.read

pub returns-in-Ok-clause-acted : goal.returns-in-Ok-clause-acted
returns-in-Ok-clause-acted g c =
    let s = g.S.Shelf.seen in
    IfErr-weaker c.load_offer.result _ _ (λ acted near go.
    performs_unoffered g.S.Shelf.tells g.H.Host.tells g.H.Host.seen c.args.repositories.now (s c.args.shelf.now).repositories (s c.args.shelf.now).faults (s c.load_offer.new.shelf).faults acted.ending acted.state c.args.session
    c.in-Ok.tree go c.in-Ok.ensures.loaded near) c.load_offer.ensures.acted

pub returns-in-Err-clause-acted : goal.returns-in-Err-clause-acted
returns-in-Err-clause-acted g c go =
    let s = g.S.Shelf.seen in
    performs_unopened g.S.Shelf.tells g.H.Host.tells g.H.Host.seen c.args.repositories.now (s c.args.shelf.now).repositories (s c.args.shelf.now).faults (s c.args.shelf.now).faults c.in-Err.acted.ending c.in-Err.acted.state c.args.session
    go c.in-Err.ensures.acted
