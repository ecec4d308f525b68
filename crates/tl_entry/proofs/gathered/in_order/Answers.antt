use Rattle.tl_entry.specs.Gathering.{IsInOrder}
use Rattle.std.proofs.Common.{subst, List}
use Rattle.tl_entry.proofs.OrderLemmas.{in_order}
use Rattle.tl_entry.proofs.gathered.in_order.Goals as goal

pub returns : goal.returns
returns g c =
    in_order g.T.Keyed.key c.args.late.items c.args.sorted.items c.sort_by_keys.new.items.items c.requires
    (subst (λ (old : List _). IsInOrder g.T.Keyed.key old c.sort_by_keys.new.items.items) c.in_ok-append.ensures.items c.sort_by_keys.ensures)
