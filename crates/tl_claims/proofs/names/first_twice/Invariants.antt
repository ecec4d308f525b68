use Rattle.std.proofs.Common.{◌≡◌, length}
use Rattle.tl_claims.specs.Claims.{first_twice}
use Rattle.tl_claims.proofs.names.first_twice.Given as goal

abbrev pub invariant-loop-first : goal.invariant-loop-first
invariant-loop-first l = first_twice l.rest ≡ first_twice l.names

abbrev pub decreases-loop-first : goal.decreases-loop-first
decreases-loop-first l = length l.rest
