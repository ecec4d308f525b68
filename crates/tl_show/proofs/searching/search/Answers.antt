use Rattle.tl_show.specs.Search.{search_run}
use Rattle.tl_show.proofs.OpenLemmas.{performs_opened}
use Rattle.tl_show.proofs.searching.search.Goals as goal

pub returns-in-Ok : goal.returns-in-Ok
returns-in-Ok g c =
    performs_opened g.S.Shelf.tells g.H.Host.tells g.H.Host.seen c.args.repositories.now (g.S.Shelf.seen c.args.shelf.now).repositories
    (g.S.Shelf.seen c.args.shelf.now).faults (g.S.Shelf.seen c.open.new.shelf).faults c.say_found.result.ending c.say_found.result.state c.args.session
    _ _ _ (search_run c.args.word.now) c.in-Ok.ensures.opened c.say_found.ensures

pub returns-in-Err : goal.returns-in-Err
returns-in-Err g c = c.in-Err.ensures.acted (λ _. search_run c.args.word.now)
