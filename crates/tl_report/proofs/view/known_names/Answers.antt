use Rattle.std.proofs.Common.{List, ℕ, Bor, ap, ◌∙◌}
use Rattle.tl_entry.specs.FilePaths.{rising_of}
use Rattle.tl_report.proofs.OrderLemmas.{sorted_once}
use Rattle.tl_report.proofs.view.known_names.Goals as goal

pub returns : goal.returns
returns c =
    sorted_once (λ (n : Bor (List ℕ)). n.now) c.in_ok-names.names.items c.sort_unstable.new.self.items c.dedup.new.self.items c.sort_unstable.ensures.permutation c.sort_unstable.ensures.sorted c.dedup.ensures.filtered
    ∙ ap rising_of c.in_ok-names.ensures
