use Rattle.std.proofs.Common.{◌≡◌, ◌+◌, ◌≤◌, ◌<◌, length, List}
use Rattle.tl_object.specs.Content.{content, entry_lines, lines_left}
use Rattle.tl_object.specs.Groups.{Group}
use Rattle.tl_object.proofs.ReadingLemmas.{Reached}
use Rattle.tl_object.proofs.read.read_parts.Given as goal

abbrev pub invariant-loop-found : goal.invariant-loop-found
invariant-loop-found l = record {
  reached : (groups : List Group) × Reached groups l.builder (entry_lines l.stops (content l.fn.before l.fn.text)) (entry_lines l.stops (content l.number l.rest));
  left : lines_left l.stops (content l.fn.before l.fn.text) ≡ lines_left l.stops (content l.number l.rest);
  shorter : length l.rest < length l.fn.text;
  fits : l.number + length l.rest ≤ l.fn.before + length l.fn.text;
}

abbrev pub decreases-loop-found : goal.decreases-loop-found
decreases-loop-found l = length l.rest
