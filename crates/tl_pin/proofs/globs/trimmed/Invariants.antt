use Rattle.std.proofs.Common.{◌≡◌, length}
use Rattle.tl_pin.specs.Form.{trimmed}
use Rattle.tl_pin.proofs.TrimLemmas.{without_blanks_behind}
use Rattle.tl_pin.proofs.globs.trimmed.Given as goal

abbrev pub invariant-loop-byte : goal.invariant-loop-byte
invariant-loop-byte l = without_blanks_behind l.rest ≡ trimmed l.text

abbrev pub decreases-loop-byte : goal.decreases-loop-byte
decreases-loop-byte l = length l.rest
