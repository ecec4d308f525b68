use Rattle.std.proofs.Common.{◌≡◌, ◌++◌, take}
use Rattle.tl_marks.specs.Writing.{paths_text}
use Rattle.tl_marks.proofs.writing.put_paths.Given as goal

abbrev pub invariant-loop-marked : goal.invariant-loop-marked
invariant-loop-marked l = l.out.items ≡ l.fn.out.items ++ paths_text (take l.marked-index l.paths)
