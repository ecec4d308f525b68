use Rattle.std.proofs.Common.{◌≡◌, take}
use Rattle.tl_expand.specs.Choices.{living}
use Rattle.tl_expand.specs.Objects.{blocks_of}
use Rattle.tl_expand.proofs.files.blocks_of.Given as goal

abbrev pub invariant-loop-hit : goal.invariant-loop-hit
invariant-loop-hit l = l.blocks ≡ blocks_of (living (take l.hit-index l.hits))
