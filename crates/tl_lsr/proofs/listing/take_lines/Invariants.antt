use Rattle.std.proofs.Common.{◌≡◌, ◌+◌, ◌≤◌, length}
use Rattle.tl_model.specs.Lines.{lines}
use Rattle.tl_lsr.specs.Reading.{lines_taken}
use Rattle.tl_lsr.proofs.listing.take_lines.Given as goal

abbrev pub invariant-loop-rest : goal.invariant-loop-rest
invariant-loop-rest l = (lines_taken l.before l.reader (lines l.rest) ≡ lines_taken 0 l.fn.reader (lines l.text))
    × (l.before + length (lines l.rest) ≡ length (lines l.text)) × (l.before + length l.rest ≤ length l.text)

abbrev pub decreases-loop-rest : goal.decreases-loop-rest
decreases-loop-rest l = length l.rest
