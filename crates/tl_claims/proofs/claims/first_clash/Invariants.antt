use Rattle.std.proofs.Common.{◌≡◌, length}
use Rattle.tl_claims.specs.Claims.{first_clash}
use Rattle.tl_claims.proofs.claims.first_clash.Given as goal

abbrev pub invariant-loop-first : goal.invariant-loop-first
invariant-loop-first l = first_clash l.rest ≡ first_clash l.claims

abbrev pub decreases-loop-first : goal.decreases-loop-first
decreases-loop-first l = length l.rest
