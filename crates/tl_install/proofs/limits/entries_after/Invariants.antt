use Rattle.std.proofs.Common.{◌≡◌, take}
use Rattle.tl_tree.specs.Changes.{entries_after}
use Rattle.tl_coming.specs.Made.{made_parts}
use Rattle.tl_install.proofs.limits.entries_after.Given as goal

abbrev pub invariant-loop-part : goal.invariant-loop-part
invariant-loop-part l = l.next ≡ entries_after (made_parts l.repos (take l.part-index l.step)) l.db
