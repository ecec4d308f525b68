use Rattle.std.proofs.Common.{◌≡◌, ◌≤◌, ◌++◌, take}
use Rattle.tl_model.specs.Seen.{Seen, Told}
use Rattle.tl_journal.specs.States.{staged}
use Rattle.tl_journal.specs.Spent.{Stages}
use Rattle.tl_tree.specs.Staged.{files_of, writes_of}
use Rattle.tl_tree.proofs.stage.stage_writes.Given as goal

abbrev pub invariant-loop-file : goal.invariant-loop-file
invariant-loop-file g l = record {
  added : Told g.H.Host.tells (staged l.staging ≡ staged l.fn.staging ++ writes_of (files_of (take l.file-index l.files)));
  keeps : Told g.H.Host.tells ((first : Seen) → Stages first l.fn.staging → Stages first l.staging);
  later : l.fn.staging.faults ≤ l.staging.faults;
}
