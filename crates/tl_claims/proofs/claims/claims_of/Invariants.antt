use Rattle.std.proofs.Common.{◌≡◌, ◌+◌, ◌++◌, length}
use Rattle.tl_claims.specs.Claims.{claims_from}
use Rattle.tl_claims.proofs.claims.claims_of.Given as goal

abbrev pub invariant-loop-object : goal.invariant-loop-object
invariant-loop-object l = record {
  claims : l.claims.items ++ claims_from l.number l.rest ≡ claims_from 0 l.objects;
  number : l.number + length l.rest ≡ length l.objects;
}

abbrev pub decreases-loop-object : goal.decreases-loop-object
decreases-loop-object l = length l.rest
