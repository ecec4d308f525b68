use Rattle.std.proofs.Common.{◌≡◌, take}
use Rattle.tl_lsr.specs.Items.{all_items}
use Rattle.tl_lsr.proofs.writer.items_of.Given as goal

abbrev pub invariant-loop-path : goal.invariant-loop-path
invariant-loop-path l = l.items.keys ≡ all_items (take l.path-index l.paths)
