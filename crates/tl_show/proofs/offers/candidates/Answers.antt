use Rattle.tl_show.specs.Candidates.{candidates_run}
use Rattle.tl_show.proofs.OpenLemmas.{performs_opened}
use Rattle.tl_show.proofs.offers.candidates.Goals as goal

pub returns-in-Ok : goal.returns-in-Ok
returns-in-Ok g c =
    performs_opened g.S.Shelf.tells g.H.Host.tells g.H.Host.seen c.args.repositories.now (g.S.Shelf.seen c.args.shelf.now).repositories
    (g.S.Shelf.seen c.args.shelf.now).faults (g.S.Shelf.seen c.open.new.shelf).faults c.say_candidates.result.ending c.say_candidates.result.state c.args.session
    _ _ _ (candidates_run c.args.name) c.in-Ok.ensures.opened c.say_candidates.ensures

pub returns-in-Err : goal.returns-in-Err
returns-in-Err g c = c.in-Err.ensures.acted (λ _. candidates_run c.args.name)
