use Rattle.std.proofs.Common.{◌≡◌, take}
use Rattle.tl_tree.specs.Changes.{later}
use Rattle.tl_tree.proofs.leaving.later.Given as goal

abbrev pub invariant-loop-part : goal.invariant-loop-part
invariant-loop-part l = l.out.items ≡ later (take l.part-index l.parts)
