use Rattle.std.proofs.Common.{◌≤◌}
use Rattle.tl_model.specs.Seen.{Told, Quiet}
use Rattle.tl_tree.proofs.stage.ask_sizes.Given as goal

abbrev pub invariant-loop-file : goal.invariant-loop-file
invariant-loop-file g l = record {
  same : Told g.H.Host.tells (Quiet l.fn.journal l.journal);
  later : l.fn.journal.faults ≤ l.journal.faults;
}
