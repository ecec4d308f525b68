use Rattle.std.proofs.Common.{◌≡◌, take}
use Rattle.std.specs.List.{flat_map}
use Rattle.tl_backup.specs.Autobackup.{gone_of, pruning}
use Rattle.tl_backup.specs.Form.{AreAt}
use Rattle.tl_backup.proofs.added.pruning.Given as goal

abbrev pub invariant-loop-name : goal.invariant-loop-name
invariant-loop-name l = (l.parts.items ≡ pruning l.keep (take l.name-index l.names) l.db l.backups)
    × AreAt l.parts.items (flat_map (gone_of l.keep l.db l.backups) (take l.name-index l.names))
