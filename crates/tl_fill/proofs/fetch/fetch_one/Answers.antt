use Rattle.tl_fill.proofs.FetchingLemmas.{halts_at}
use Rattle.tl_fill.specs.Wanted.{wanted_of}
use Rattle.tl_fill.proofs.fetch.fetch_one.Goals as goal

pub returns-in-Ok-clause-filled : goal.returns-in-Ok-clause-filled
returns-in-Ok-clause-filled g c = let f = c.in-Ok.ensures.fetched in (f.seen, f.same, f.gave)

pub returns-in-Err-clause-halted : goal.returns-in-Err-clause-halted
returns-in-Err-clause-halted g c =
    let e = c.in-Err.ensures in
    halts_at g.S.Shelf.tells g.K.FileSink.tells (wanted_of c.args.fetch.now) c.in-Err.error c.halt_of.result (g.S.Shelf.seen c.args.shelf.now) (g.S.Shelf.seen c.fetch_into.new.shelf)
    (g.K.FileSink.seen c.args.sink.now) (g.K.FileSink.seen c.fetch_into.new.sink) c.halt_of.ensures e.fetched e.cause.failed e.sink.failed
