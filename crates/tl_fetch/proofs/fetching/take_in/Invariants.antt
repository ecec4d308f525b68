use Rattle.std.proofs.Common.{◌-◌}
use Rattle.tl_fetch.proofs.FetchLemmas.{IsReading}
use Rattle.tl_fetch.proofs.fetching.take_in.Given as goal

abbrev pub invariant-loop-done : goal.invariant-loop-done
invariant-loop-done g l = record {
  since : (first : g.row.K.Denot) → g.K.FileSink.since first l.fn.sink → g.K.FileSink.since first l.sink;
  reading : IsReading g.S.Shelf.tells g.K.FileSink.tells (g.S.Shelf.seen l.fn.shelf) (g.S.Shelf.seen l.shelf) l.number l.fn.name (g.K.FileSink.seen l.fn.sink) (g.K.FileSink.seen l.sink) l.fn.intake l.intake l.done;
}

abbrev pub decreases-loop-done : goal.decreases-loop-done
decreases-loop-done g l = l.size - l.done
