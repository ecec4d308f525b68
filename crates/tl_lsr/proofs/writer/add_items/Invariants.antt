use Rattle.std.proofs.Common.{◌≡◌}
use Rattle.std.specs.List.{fold}
use Rattle.std.specs.Ordering.{nat_cmp}
use Rattle.std.specs.Cmp.Lexicographic.{slice_cmp}
use Rattle.std.specs.BTreeSet.{insert_key}
use Rattle.tl_path.specs.Inside.{components_left}
use Rattle.tl_lsr.specs.Items.{items_below, with_items}
use Rattle.tl_lsr.proofs.writer.add_items.Given as goal

abbrev pub invariant-loop-name : goal.invariant-loop-name
invariant-loop-name l = fold (insert_key (slice_cmp nat_cmp)) l.items.keys (items_below l.dir.items (components_left l.name-iterator)) ≡ with_items l.fn.items.keys l.path
