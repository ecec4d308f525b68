use Rattle.std.proofs.Common.{◌-◌, vec_len}
use Rattle.tl_repo.proofs.ShelfLemmas.{HasRead}
use Rattle.tl_repo.proofs.file.read_bytes.Given as goal

abbrev pub invariant-loop-piece : goal.invariant-loop-piece
invariant-loop-piece g l = HasRead g.S.Shelf.tells (g.S.Shelf.seen l.fn.shelf) (g.S.Shelf.seen l.shelf) l.number l.fn.name l.bytes.items

abbrev pub decreases-loop-piece : goal.decreases-loop-piece
decreases-loop-piece g l = l.size - vec_len l.bytes
