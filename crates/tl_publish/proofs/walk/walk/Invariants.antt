use Rattle.tl_model.specs.Seen.{Told}
use Rattle.tl_backup.specs.Asked.{IsAsked, tree_in}
use Rattle.tl_publish.proofs.GatherLemmas.{HasGathered, AreUpTo}
use Rattle.tl_publish.proofs.walk.walk.Given as goal

abbrev pub invariant-loop-number : goal.invariant-loop-number
invariant-loop-number g l = IsAsked g.H.Host.tells l.fn.tree l.tree
    × Told g.H.Host.tells (HasGathered (tree_in l.fn.tree) l._number l.last l.names)
    × AreUpTo l.last l.names.inside
