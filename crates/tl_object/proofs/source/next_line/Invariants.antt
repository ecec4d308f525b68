use Rattle.std.proofs.Common.{◌≡◌, ◌+◌, ◌≤◌, length}
use Rattle.tl_object.specs.Content.{content}
use Rattle.tl_object.proofs.source.next_line.Given as goal

abbrev pub invariant-loop-rest : goal.invariant-loop-rest
invariant-loop-rest l = record {
  same : content l.number l.rest ≡ content l.fn.before l.fn.text;
  fits : l.number + length l.rest ≤ l.fn.before + length l.fn.text;
  shorter : length l.rest ≤ length l.fn.text;
}

abbrev pub decreases-loop-rest : goal.decreases-loop-rest
decreases-loop-rest l = length l.rest
