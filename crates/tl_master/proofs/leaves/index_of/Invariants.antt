use Rattle.std.proofs.Common.{◌≡◌, ◌++◌, List, Ok}
use Rattle.std.specs.Vec.Iter.{into_iter_items}
use Rattle.tl_index.specs.declared.hit.Hit.{Hit}
use Rattle.tl_master.specs.Answers.{Asks}
use Rattle.tl_master.specs.Listing.{index_of}
use Rattle.tl_master.proofs.leaves.index_of.Given as goal

abbrev pub invariant-loop-marked : goal.invariant-loop-marked
invariant-loop-marked g l = record {
  asks : Asks g.H.Host.tells (λ (i : List Hit). i) (λ t. Ok (index_of t l.yielded)) l.fn.tree l.tree (Ok l.index);
  split : l.fn.listing.items ≡ l.yielded ++ into_iter_items l.marked-iterator;
}
