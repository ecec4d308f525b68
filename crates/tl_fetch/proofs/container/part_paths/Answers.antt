use Rattle.std.proofs.Common.{ap, ◌∙◌}
use Rattle.tl_entry.specs.FilePaths.{rising_of}
use Rattle.tl_entry.proofs.SetLemmas.{sorted_once}
use Rattle.tl_fetch.proofs.container.part_paths.Goals as goal

pub returns-clause-paths : goal.returns-clause-paths
returns-clause-paths c =
    (sorted_once c.in_ok-paths.paths.items c.sort_unstable.new.self.items c.dedup.new.self.items c.sort_unstable.ensures.permutation c.sort_unstable.ensures.sorted c.dedup.ensures.filtered).same
    ∙ ap rising_of c.in_ok-paths.ensures

pub returns-clause-rising : goal.returns-clause-rising
returns-clause-rising c =
    (sorted_once c.in_ok-paths.paths.items c.sort_unstable.new.self.items c.dedup.new.self.items c.sort_unstable.ensures.permutation c.sort_unstable.ensures.sorted c.dedup.ensures.filtered).rising
