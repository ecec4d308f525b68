use Rattle.std.proofs.Common.{◌≡◌, filter, take}
use Rattle.tl_backup.specs.Files.{is_other}
use Rattle.tl_backup.proofs.names.others.Given as goal

abbrev pub invariant-loop-backup : goal.invariant-loop-backup
invariant-loop-backup l = l.others.items ≡ filter (is_other l.name l.coming) (take l.backup-index l.backups)
