use Rattle.std.proofs.Common.{◌≡◌, ◌++◌, ◌∷◌, [], ◌∙◌, append_assoc, arith}
use Rattle.std.proofs.lemmas.Grind.{common_steps}
use Rattle.std.specs.Vec.Iter.{into_iter_items}
use Rattle.tl_fetch.proofs.TakeLemmas.{goes_next, goes_more}
use Rattle.tl_fetch.proofs.unpacking.Unpacking.take_all.Goals as goal

pub take-requires : goal.take-requires
take-requires g c =
    let split : c.args.events.items ≡ (c.loop-event.yielded ++ c.in-Some.event ∷ []) ++ into_iter_items c.next.new.self = grind (arith, common_steps) in
    goes_next g.K.FileSink.tells (g.K.FileSink.seen c.args.sink.now) (g.K.FileSink.seen c.loop-event.sink) c.args.self.now c.loop-event.self c.loop-event.yielded c.in-Some.event (into_iter_items c.next.new.self) c.args.events.items
    c.requires c.loop-event.invariant.goes_on (split ∙ append_assoc c.loop-event.yielded (c.in-Some.event ∷ []) (into_iter_items c.next.new.self))

pub loop-event-preserved : goal.loop-event-preserved
loop-event-preserved g c = record {
  goes_on = goes_more g.K.FileSink.tells (g.K.FileSink.seen c.args.sink.now) (g.K.FileSink.seen c.loop-event.sink) (g.K.FileSink.seen c.take.new.sink) c.args.self.now c.loop-event.self c.take.new.self c.loop-event.yielded c.in-Some.event
      c.loop-event.invariant.goes_on c.take.ensures.cause.later c.in_ok-take.ensures.goes;
  since = λ first held. c.take.ensures.since first (c.loop-event.invariant.since first held);
  split = grind (arith, common_steps);
}
