use Rattle.tl_entry.proofs.SetLemmas.{sorted_once}
use Rattle.tl_touch.proofs.set.PathSet.of.Goals as goal

pub invariant_of-result : goal.invariant_of-result
invariant_of-result c =
    (sorted_once c.args.paths.items c.sort_unstable.new.self.items c.dedup.new.self.items c.sort_unstable.ensures.permutation c.sort_unstable.ensures.sorted c.dedup.ensures.filtered).rising

pub returns : goal.returns
returns c path =
    (sorted_once c.args.paths.items c.sort_unstable.new.self.items c.dedup.new.self.items c.sort_unstable.ensures.permutation c.sort_unstable.ensures.sorted c.dedup.ensures.filtered).members path
