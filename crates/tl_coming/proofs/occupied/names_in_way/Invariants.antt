use Rattle.tl_model.specs.Seen.{Told}
use Rattle.tl_coming.specs.Asked.{IsAsked, tree_in}
use Rattle.tl_coming.specs.Listings.{is_in_way}
use Rattle.tl_coming.proofs.TreeLaws.{HasFound}
use Rattle.tl_coming.proofs.occupied.names_in_way.Given as goal

abbrev pub invariant-loop-number : goal.invariant-loop-number
invariant-loop-number g l = IsAsked g.H.Host.tells l.fn.tree l.tree
    × Told g.H.Host.tells (HasFound (is_in_way l.owned l.coming) (tree_in l.fn.tree) l._number l.last l.names.items)
