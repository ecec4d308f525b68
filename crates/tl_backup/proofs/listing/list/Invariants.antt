use Rattle.std.specs.Option.{option_copied}
use Rattle.tl_model.specs.Seen.{Told}
use Rattle.tl_backup.specs.Asked.{IsAsked, tree_in}
use Rattle.tl_backup.proofs.Walks.{HasListed, HasRisen}
use Rattle.tl_backup.proofs.listing.list.Given as goal

abbrev pub invariant-loop-number : goal.invariant-loop-number
invariant-loop-number g l = IsAsked g.H.Host.tells l.fn.tree l.tree
    × Told g.H.Host.tells (HasListed (option_copied l.name) (tree_in l.fn.tree) l._number l.last l.found.items)
    × HasRisen l.last l.found.items
