use Rattle.std.proofs.Common.{◌≡◌, drop}
use Rattle.tl_model.specs.Seen.{Told}
use Rattle.tl_backup.specs.Asked.{IsAsked, tree_in}
use Rattle.tl_backups.specs.Backing.{files_fault, fault_among}
use Rattle.tl_backups.proofs.backing.check_all_missing.Given as goal

abbrev pub invariant-loop-name : goal.invariant-loop-name
invariant-loop-name g l = IsAsked g.H.Host.tells l.fn.tree l.tree
    × Told g.H.Host.tells (fault_among (files_fault l.fn.tree.db (tree_in l.fn.tree)) l.packages ≡ fault_among (files_fault l.fn.tree.db (tree_in l.fn.tree)) (drop l.name-index l.packages))
