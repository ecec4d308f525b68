use Rattle.std.proofs.Common.{◌≡◌, ◌+◌, ◌≤◌, length}
use Rattle.std.specs.Prelude.{Some}
use Rattle.std.specs.List.{list_any}
use Rattle.tl_srctext.specs.Joined.{joined_lines}
use Rattle.tl_srctext.specs.Reading.{is_name_line}
use Rattle.tl_srctext.specs.Steps.{lines_from}
use Rattle.tl_srctext.proofs.reading.has_name_line.Given as goal

abbrev pub invariant-loop-line : goal.invariant-loop-line
invariant-loop-line l = record {
  left : list_any is_name_line (joined_lines l.fn.text) ≡ list_any is_name_line (lines_from l.number (Some l.rest));
  fits : l.number + length l.rest ≤ 1 + length l.fn.text;
}

abbrev pub decreases-loop-line : goal.decreases-loop-line
decreases-loop-line l = length l.rest
