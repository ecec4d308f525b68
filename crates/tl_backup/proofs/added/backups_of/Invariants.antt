use Rattle.std.proofs.Common.{◌≡◌, Ok, drop, map, take}
use Rattle.tl_model.specs.Seen.{Told}
use Rattle.tl_backup.specs.Asked.{IsAsked, tree_in}
use Rattle.tl_backup.specs.Autobackup.{backups_of, revision_at, with_parts}
use Rattle.tl_backup.specs.Form.{AreAt, installed}
use Rattle.tl_backup.proofs.added.backups_of.Given as goal

abbrev pub invariant-loop-name : goal.invariant-loop-name
invariant-loop-name g l = IsAsked g.H.Host.tells l.fn.tree l.tree
    × Told g.H.Host.tells (backups_of l.names l.fn.tree.db (tree_in l.fn.tree) ≡ with_parts (Ok l.parts.items) (backups_of (drop l.name-index l.names) l.fn.tree.db (tree_in l.fn.tree)))
    × AreAt l.parts.items (map (installed (revision_at l.fn.tree.db)) (take l.name-index l.names))
