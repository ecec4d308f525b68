use Rattle.std.proofs.Common.{◌≡◌, ◌++◌}
use Rattle.std.specs.Vec.Iter.{into_iter_items}
use Rattle.tl_fetch.proofs.TakeLemmas.{GoesOn}
use Rattle.tl_fetch.proofs.unpacking.Unpacking.take_all.Given as goal

abbrev pub invariant-loop-event : goal.invariant-loop-event
invariant-loop-event g l = record {
  goes_on : GoesOn g.K.FileSink.tells (g.K.FileSink.seen l.fn.sink) (g.K.FileSink.seen l.sink) l.fn.self l.self l.yielded;
  since : (first : g.row.K.Denot) → g.K.FileSink.since first l.fn.sink → g.K.FileSink.since first l.sink;
  split : l.fn.events.items ≡ l.yielded ++ into_iter_items l.event-iterator;
}
