use Rattle.tl_model.specs.Seen.{Told}
use Rattle.tl_backup.specs.Asked.{IsAsked, tree_in}
use Rattle.tl_master.proofs.NameWalk.{HasNamed}
use Rattle.tl_master.proofs.names.names.Given as goal

abbrev pub invariant-loop-number : goal.invariant-loop-number
invariant-loop-number g l = IsAsked g.H.Host.tells l.fn.tree l.tree
    × Told g.H.Host.tells (HasNamed (tree_in l.fn.tree) l._number l.last l.names.items)
