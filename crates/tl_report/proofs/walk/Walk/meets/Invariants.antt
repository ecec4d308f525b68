use Rattle.std.proofs.Common.{◌≡◌, ◌≤◌}
use Rattle.tl_model.specs.Seen.{Told, Quiet}
use Rattle.tl_journal_text.specs.Stand.{tree_of}
use Rattle.tl_report.specs.Walk.{IsInTree}
use Rattle.tl_report.proofs.walk.Walk.meets.Given as goal

abbrev pub invariant-loop-number : goal.invariant-loop-number
invariant-loop-number g l = record {
  inside : Told g.H.Host.tells (IsInTree (tree_of l.initial.tree.seen.present.held) l.self.last);
  same : Told g.H.Host.tells (Quiet l.initial.tree.seen l.tree.seen);
  db : l.tree.db ≡ l.initial.tree.db;
  later : l.initial.tree.seen.faults ≤ l.tree.seen.faults;
}
