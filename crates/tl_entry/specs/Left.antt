-- What is left of an iterator over paths.
use Rattle.std.specs.Prelude.{ℕ, List, drop}
use Rattle.tl_entry.specs.declared.paths.PathsIter.{PathsIter}

-- the paths that an iterator has still to give
abbrev pub paths_left : PathsIter → List (List ℕ)
paths_left it = drop it.at it.paths.now
