use Rattle.std.proofs.Common.{◌≡◌, length}
use Rattle.tl_pin.specs.Form.{without_blanks_before}
use Rattle.tl_pin.proofs.globs.without_blanks_before.Given as goal

abbrev pub invariant-loop-byte : goal.invariant-loop-byte
invariant-loop-byte l = without_blanks_before l.rest ≡ without_blanks_before l.text

abbrev pub decreases-loop-byte : goal.decreases-loop-byte
decreases-loop-byte l = length l.rest
