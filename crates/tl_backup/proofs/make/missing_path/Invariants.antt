use Rattle.std.proofs.Common.{◌≡◌, drop}
use Rattle.tl_model.specs.Seen.{Told}
use Rattle.tl_backup.specs.Asked.{IsAsked, tree_in}
use Rattle.tl_backup.specs.Frames.{missing_path}
use Rattle.tl_backup.proofs.make.missing_path.Given as goal

abbrev pub invariant-loop-path : goal.invariant-loop-path
invariant-loop-path g l = IsAsked g.H.Host.tells l.fn.tree l.tree
    × Told g.H.Host.tells (missing_path (tree_in l.fn.tree) l.paths ≡ missing_path (tree_in l.fn.tree) (drop l.path-index l.paths))
