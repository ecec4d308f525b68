use Rattle.std.proofs.Common.{◌≡◌, ◌++◌, take}
use Rattle.std.specs.Prelude.{map}
use Rattle.tl_tree.specs.Changes.{named_bytes}
use Rattle.tl_tree.specs.Staged.{files_of}
use Rattle.tl_tree.proofs.arrange.push_files.Given as goal

abbrev pub invariant-loop-file : goal.invariant-loop-file
invariant-loop-file l = files_of l.out.items ≡ files_of l.initial.out.items ++ map named_bytes (take l.file-index l.files)
