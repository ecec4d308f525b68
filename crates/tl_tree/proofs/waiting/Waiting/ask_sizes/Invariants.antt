use Rattle.std.proofs.Common.{◌≤◌}
use Rattle.tl_model.specs.Seen.{Told, Quiet}
use Rattle.tl_tree.proofs.waiting.Waiting.ask_sizes.Given as goal

abbrev pub invariant-loop-path : goal.invariant-loop-path
invariant-loop-path g l = record {
  same : Told g.H.Host.tells (Quiet l.fn.journal l.journal);
  later : l.fn.journal.faults ≤ l.journal.faults;
}
