use Rattle.std.proofs.Common.{◌≡◌, ◌∷◌, length}
use Rattle.std.specs.Prelude.{MatchOption}
use Rattle.tl_path.specs.Components.{components}
use Rattle.tl_path.specs.Inside.{components_left}
use Rattle.tl_pattern.specs.Form.{last_of}
use Rattle.tl_pattern.specs.Hits.{is_beside}
use Rattle.tl_pattern.proofs.WalkLemmas.{ahead}
use Rattle.tl_pattern.proofs.hits.last_beside.Given as goal

abbrev pub invariant-loop-part : goal.invariant-loop-part
invariant-loop-part l = record {
  same : is_beside (ahead l.part (components_left l.parts)) (ahead l.name (components_left l.names)) ≡ is_beside (components l.file) (components l.path);
  last : MatchOption l.name (Unit {0}) (λ c. last_of (c.now ∷ components_left l.names) ≡ last_of (components l.path));
}

abbrev pub decreases-loop-part : goal.decreases-loop-part
decreases-loop-part l = length (ahead l.part (components_left l.parts))
