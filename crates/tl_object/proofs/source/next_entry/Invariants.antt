use Rattle.std.proofs.Common.{◌≡◌, ◌+◌, ◌≤◌, length}
use Rattle.tl_object.specs.Content.{content, stretches}
use Rattle.tl_object.proofs.source.next_entry.Given as goal

abbrev pub invariant-loop-found : goal.invariant-loop-found
invariant-loop-found l = record {
  same : stretches (content l.fn.before l.fn.text) ≡ stretches (content l.number l.rest);
  fits : l.number + length l.rest ≤ l.fn.before + length l.fn.text;
  shorter : length l.rest ≤ length l.fn.text;
}

abbrev pub decreases-loop-found : goal.decreases-loop-found
decreases-loop-found l = length l.rest
