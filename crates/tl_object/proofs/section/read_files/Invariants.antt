use Rattle.std.proofs.Common.{◌≡◌, ◌+◌, ◌≤◌, length}
use Rattle.tl_object.specs.Content.{content, entry_lines, lines_left}
use Rattle.tl_object.specs.Steps.{IsSection}
use Rattle.tl_object.proofs.section.read_files.Given as goal

abbrev pub invariant-loop-found : goal.invariant-loop-found
invariant-loop-found g l = record {
  section : IsSection g.S.SectionFiles.place (g.S.SectionFiles.entries l.files) (entry_lines l.stops (content l.fn.number l.fn.text)) (entry_lines l.stops (content l.number l.rest));
  left : lines_left l.stops (content l.fn.number l.fn.text) ≡ lines_left l.stops (content l.number l.rest);
  fits : l.number + length l.rest ≤ l.fn.number + length l.fn.text;
  shorter : length l.rest ≤ length l.fn.text;
}

abbrev pub decreases-loop-found : goal.decreases-loop-found
decreases-loop-found g l = length l.rest
