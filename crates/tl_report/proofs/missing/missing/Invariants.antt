use Rattle.std.proofs.Common.{◌≡◌, ◌≤◌, map, take}
use Rattle.tl_model.specs.Seen.{Told, Quiet}
use Rattle.tl_journal_text.specs.Stand.{tree_of}
use Rattle.tl_report.specs.Claims.{claim_by}
use Rattle.tl_report.specs.Missing.{missing_among}
use Rattle.tl_report.proofs.missing.missing.Given as goal

abbrev pub invariant-loop-file : goal.invariant-loop-file
invariant-loop-file g l = record {
  lines : Told g.H.Host.tells (l.lines ≡ missing_among (tree_of l.initial.tree.seen.present.held) (map (λ file. claim_by file.1.now file.0) (take l.file-index l.files)));
  same : Told g.H.Host.tells (Quiet l.initial.tree.seen l.tree.seen);
  db : l.tree.db ≡ l.initial.tree.db;
  later : l.initial.tree.seen.faults ≤ l.tree.seen.faults;
}
