use Rattle.tl_tree.specs.Staged.{files_of, AreOutside, LeavesOut}
use Rattle.tl_tree.proofs.arrange.each_once.Given as goal

abbrev pub invariant-loop-path : goal.invariant-loop-path
invariant-loop-path l = record {
  left : LeavesOut (files_of l.writes) l.waiting l.yielded l.names.items;
  outside : AreOutside l.names.items;
}
