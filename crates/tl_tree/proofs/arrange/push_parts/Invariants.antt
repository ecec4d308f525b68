use Rattle.std.proofs.Common.{◌≡◌, ◌++◌, take}
use Rattle.tl_tree.specs.Changes.{coming}
use Rattle.tl_tree.specs.Staged.{files_of}
use Rattle.tl_tree.proofs.arrange.push_parts.Given as goal

abbrev pub invariant-loop-part : goal.invariant-loop-part
invariant-loop-part l = files_of l.out.items ≡ files_of l.initial.out.items ++ coming (take l.part-index l.parts)
