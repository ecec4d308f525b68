use Rattle.std.proofs.Common.{◌≡◌, [], ◌++◌}
use Rattle.std.specs.List.{flat_map}
use Rattle.std.specs.Vec.Iter.{into_iter_items}
use Rattle.tl_frame.specs.Events.{event_tokens, with_tokens}
use Rattle.tl_frame.proofs.whole.frame_of.Given as goal

abbrev pub invariant-loop-event : goal.invariant-loop-event
invariant-loop-event l = record {
  told : with_tokens ([], []) (flat_map event_tokens l.yielded) ≡ (l.entry, l.files.items);
  split : l.fn.events.items ≡ l.yielded ++ into_iter_items l.event-iterator;
}
