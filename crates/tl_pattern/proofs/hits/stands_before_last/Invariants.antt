use Rattle.std.proofs.Common.{◌≡◌}
use Rattle.tl_path.specs.Inside.{components_left}
use Rattle.tl_pattern.specs.Hits.{stands_before_last}
use Rattle.tl_pattern.proofs.WalkLemmas.{stands_after}
use Rattle.tl_pattern.proofs.hits.stands_before_last.Given as goal

abbrev pub invariant-loop-component : goal.invariant-loop-component
invariant-loop-component l = stands_after l.is_last_one l.name (components_left l.component-iterator) ≡ stands_before_last l.name (components_left l.fn.names)
