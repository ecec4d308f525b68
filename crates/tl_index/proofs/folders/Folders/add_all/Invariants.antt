use Rattle.tl_index.proofs.FolderLemmas.{AddedSoFar}
use Rattle.tl_index.proofs.folders.Folders.add_all.Given as goal

abbrev pub invariant-loop-at : goal.invariant-loop-at
invariant-loop-at l = AddedSoFar l.path l.from l.start l.at l.fn.self l.self
