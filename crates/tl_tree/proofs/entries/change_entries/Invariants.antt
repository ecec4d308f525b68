use Rattle.std.proofs.Common.{◌≡◌, take}
use Rattle.tl_tree.specs.Changes.{entries_after}
use Rattle.tl_tree.proofs.entries.change_entries.Given as goal

abbrev pub invariant-loop-part : goal.invariant-loop-part
invariant-loop-part l = l.db ≡ entries_after (take l.part-index l.parts) l.initial.db
