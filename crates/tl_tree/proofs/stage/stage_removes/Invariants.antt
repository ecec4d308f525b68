use Rattle.std.proofs.Common.{◌≡◌, ◌≤◌, ◌++◌, take}
use Rattle.tl_model.specs.Seen.{Seen, Told}
use Rattle.tl_journal.specs.States.{staged}
use Rattle.tl_journal.specs.Spent.{Stages}
use Rattle.tl_tree.specs.Staged.{removes_of}
use Rattle.tl_tree.proofs.stage.stage_removes.Given as goal

abbrev pub invariant-loop-name : goal.invariant-loop-name
invariant-loop-name g l = record {
  added : Told g.H.Host.tells (staged l.staging ≡ staged l.fn.staging ++ removes_of (take l.name-index l.names));
  keeps : Told g.H.Host.tells ((first : Seen) → Stages first l.fn.staging → Stages first l.staging);
  later : l.fn.staging.faults ≤ l.staging.faults;
}
