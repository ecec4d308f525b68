use Rattle.std.proofs.Common.{◌≡◌, map, take}
use Rattle.std.specs.Prelude.{filter}
use Rattle.tl_report.specs.Search.{found_line, is_about}
use Rattle.tl_report.proofs.finding.found_lines.Given as goal

abbrev pub invariant-loop-entry : goal.invariant-loop-entry
invariant-loop-entry l = l.lines ≡ map found_line (filter (is_about l.word) (map (λ e. e.now) (take l.entry-index l.entries)))
