use Rattle.std.proofs.Common.{◌≡◌, take}
use Rattle.tl_expand.specs.Objects.{living_paths}
use Rattle.tl_expand.proofs.files.living_paths.Given as goal

abbrev pub invariant-loop-hit : goal.invariant-loop-hit
invariant-loop-hit l = l.paths.items ≡ living_paths (take l.hit-index l.hits)
