use Rattle.std.proofs.Common.{ap, ◌∙◌}
use Rattle.tl_entry.specs.FilePaths.{rising_of}
use Rattle.tl_entry.proofs.SetLemmas.{sorted_once}
use Rattle.tl_backups.proofs.backing.packages_of.Goals as goal

pub returns : goal.returns
returns c =
    (sorted_once c.in_ok-packages.packages.items c.sort_unstable.new.self.items c.dedup.new.self.items c.sort_unstable.ensures.permutation c.sort_unstable.ensures.sorted c.dedup.ensures.filtered).same
    ∙ ap rising_of c.in_ok-packages.ensures
