use Rattle.std.proofs.Common.{◌≡◌, ◌++◌, length}
use Rattle.std.specs.Prelude.{filter}
use Rattle.tl_publish.specs.Listable.{is_lowest}
use Rattle.tl_publish.proofs.LowestLemmas.{Rises, kept_of}
use Rattle.tl_publish.proofs.lowest.lowest.Given as goal

abbrev pub invariant-loop-name : goal.invariant-loop-name
invariant-loop-name l = (l.kept.items ++ kept_of l.rest ≡ filter (is_lowest l.names) l.names) × Rises l.rest

abbrev pub decreases-loop-name : goal.decreases-loop-name
decreases-loop-name l = length l.rest
