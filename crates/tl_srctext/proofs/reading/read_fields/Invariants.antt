use Rattle.std.proofs.Common.{◌+◌, ◌≤◌, length}
use Rattle.std.specs.Prelude.{Some}
use Rattle.tl_srctext.specs.Joined.{joined_lines}
use Rattle.tl_srctext.specs.Steps.{lines_from}
use Rattle.tl_srctext.proofs.ReadingLemmas.{ReadSoFar}
use Rattle.tl_srctext.proofs.reading.read_fields.Given as goal

abbrev pub invariant-loop-line : goal.invariant-loop-line
invariant-loop-line l = record {
  read : ReadSoFar l.name (joined_lines l.fn.text) l.fields (lines_from l.number (Some l.rest));
  fits : l.number + length l.rest ≤ 1 + length l.fn.text;
}

abbrev pub decreases-loop-line : goal.decreases-loop-line
decreases-loop-line l = length l.rest
