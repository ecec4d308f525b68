use Rattle.std.proofs.Common.{◌≡◌, ◌++◌, map}
use Rattle.tl_entry.specs.Left.{paths_left}
use Rattle.tl_claims.specs.Claims.{claim}
use Rattle.tl_claims.proofs.claims.push_paths.Given as goal

abbrev pub invariant-loop-path : goal.invariant-loop-path
invariant-loop-path l = l.claims.items ++ map (claim l.number l.by) (paths_left l.path-iterator) ≡ l.fn.claims.items ++ map (claim l.number l.by) l.paths
