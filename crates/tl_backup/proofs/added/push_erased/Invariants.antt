use Rattle.std.proofs.Common.{◌≡◌, ◌++◌, map, take}
use Rattle.tl_backup.specs.Autobackup.{erasing}
use Rattle.tl_backup.specs.Form.{AreAt}
use Rattle.tl_backup.proofs.added.push_erased.Given as goal

abbrev pub invariant-loop-backup : goal.invariant-loop-backup
invariant-loop-backup l = (l.parts.items ≡ l.initial.parts.items ++ map erasing (take l.backup-index l.gone))
    × AreAt (map erasing (take l.backup-index l.gone)) (take l.backup-index l.gone)
