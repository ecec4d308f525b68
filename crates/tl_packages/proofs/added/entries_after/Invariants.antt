use Rattle.std.proofs.Common.{◌≡◌, take}
use Rattle.tl_tree.specs.Changes.{entries_after}
use Rattle.tl_packages.specs.Remove.{parts_of}
use Rattle.tl_packages.proofs.added.entries_after.Given as goal

abbrev pub invariant-loop-part : goal.invariant-loop-part
invariant-loop-part l = l.next ≡ entries_after (parts_of (take l.part-index l.step)) l.db
