use Rattle.std.proofs.Common.{◌≡◌, ◌++◌, take}
use Rattle.std.specs.Prelude.{not, filter, map}
use Rattle.tl_path.specs.Reserved.{is_reserved}
use Rattle.tl_tree.specs.Changes.{path_of}
use Rattle.tl_tree.proofs.leaving.push_docs.Given as goal

abbrev pub invariant-loop-file : goal.invariant-loop-file
invariant-loop-file l = l.out.items ≡ l.initial.out.items ++ filter (λ p. not (is_reserved p)) (map path_of (take l.file-index l.files))
