use Rattle.std.proofs.Common.{◌≡◌, take}
use Rattle.tl_model.specs.Acks.{IsPlain}
use Rattle.tl_restore.specs.Listing.{backup_lines}
use Rattle.tl_restore.proofs.listing.lines_of.Given as goal

abbrev pub invariant-loop-backup : goal.invariant-loop-backup
invariant-loop-backup l = record {
  lines : l.lines.items ≡ backup_lines (take l.backup-index l.backups);
  plain : IsPlain l.lines.items;
}
