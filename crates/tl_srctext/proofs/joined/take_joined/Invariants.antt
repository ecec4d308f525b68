use Rattle.std.proofs.Common.{◌≡◌, ◌+◌, ◌≤◌, length}
use Rattle.std.specs.Prelude.{Some}
use Rattle.tl_srctext.specs.Joined.{join_from}
use Rattle.tl_srctext.specs.Steps.{lines_from}
use Rattle.tl_srctext.proofs.JoinLemmas.{parts_of}
use Rattle.tl_srctext.proofs.joined.take_joined.Given as goal

abbrev pub invariant-loop-end : goal.invariant-loop-end
invariant-loop-end l = record {
  lines : lines_from l.fn.number (Some l.fn.text) ≡ join_from l.fn.number l.line.items l.next (parts_of l.rest);
  fits : l.next + length l.rest ≤ l.fn.number + length l.fn.text;
  shorter : length l.rest ≤ length l.fn.text;
}

abbrev pub decreases-loop-end : goal.decreases-loop-end
decreases-loop-end l = length l.rest
