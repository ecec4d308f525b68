use Rattle.std.proofs.Common.{◌≡◌, drop, take, map}
use Rattle.tl_model.specs.Seen.{Told}
use Rattle.tl_file.specs.declared.file.FileBytes.{FileBytes}
use Rattle.tl_backup.specs.Asked.{IsAsked, tree_in}
use Rattle.tl_backup.specs.Frames.{files_at}
use Rattle.tl_backup.proofs.Making.{in_front}
use Rattle.tl_backup.proofs.make.read_files.Given as goal

abbrev pub invariant-loop-path : goal.invariant-loop-path
invariant-loop-path g l = IsAsked g.H.Host.tells l.fn.tree l.tree
    × Told g.H.Host.tells (files_at (tree_in l.fn.tree) l.paths ≡ in_front l.files.items (files_at (tree_in l.fn.tree) (drop l.path-index l.paths)))
    × (map (λ (f : FileBytes). f.path) l.files.items ≡ take l.path-index l.paths)
