use Rattle.std.proofs.Common.{◌≡◌, take}
use Rattle.tl_tree.specs.Changes.{leaving}
use Rattle.tl_tree.proofs.leaving.leaving.Given as goal

abbrev pub invariant-loop-part : goal.invariant-loop-part
invariant-loop-part l = l.out.items ≡ leaving l.db (take l.part-index l.parts)
