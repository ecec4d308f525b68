use Rattle.std.proofs.Common.{◌≤◌, drop}
use Rattle.std.specs.Prelude.{map}
use Rattle.tl_model.specs.Devices.{SameShelf}
use Rattle.tl_fill.specs.Wanted.{wanted_of}
use Rattle.tl_fill.proofs.FetchingLemmas.{IsFetching}
use Rattle.tl_fill.proofs.fetch.fetch_all.Given as goal

abbrev pub invariant-loop-fetch : goal.invariant-loop-fetch
invariant-loop-fetch g l = record {
  fetching : IsFetching g.S.Shelf.tells g.K.FileSink.tells (g.S.Shelf.seen l.fn.shelf).repositories (map wanted_of l.fetches) (drop l.fetch-index (map wanted_of l.fetches)) (g.K.FileSink.seen l.fn.sink) (g.K.FileSink.seen l.sink);
  same : SameShelf (g.S.Shelf.seen l.fn.shelf) (g.S.Shelf.seen l.shelf);
  later : (g.S.Shelf.seen l.fn.shelf).faults ≤ (g.S.Shelf.seen l.shelf).faults;
  sink_later : (g.K.FileSink.seen l.fn.sink).faults ≤ (g.K.FileSink.seen l.sink).faults;
  since : (first : g.row.K.Denot) → g.K.FileSink.since first l.fn.sink → g.K.FileSink.since first l.sink;
}
