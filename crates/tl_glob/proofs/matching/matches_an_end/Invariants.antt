use Rattle.std.proofs.Common.{◌+◌, ◌*◌, ◌≤◌, length}
use Rattle.std.specs.List.{list_any}
use Rattle.tl_glob.specs.Matches.{ends, is_match}
use Rattle.tl_glob.proofs.Walks.{IsLeft}
use Rattle.tl_glob.proofs.matching.matches_an_end.Given as goal

abbrev pub invariant-loop-byte : goal.invariant-loop-byte
invariant-loop-byte l = record {
  walk : IsLeft l.first l.from l.parts l.left (list_any (is_match l.glob) (ends l.text));
  first_short : length l.first ≤ length l.glob;
  short : length l.parts ≤ length l.glob;
}

abbrev pub decreases-loop-byte : goal.decreases-loop-byte
decreases-loop-byte l = length l.from * (length l.glob + 1) + length l.parts
