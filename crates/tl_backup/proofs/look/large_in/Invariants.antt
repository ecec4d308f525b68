use Rattle.std.proofs.Common.{◌≡◌, ◌+◌, take, length, false}
use Rattle.std.specs.Prelude.{sum_by, nat_lt, min}
use Rattle.std.specs.List.{list_any}
use Rattle.tl_model.specs.Seen.{Told}
use Rattle.tl_backup.specs.Asked.{IsAsked, tree_in}
use Rattle.tl_backup.specs.Frames.{frame_share, size_at}
use Rattle.tl_backup.proofs.look.large_in.Given as goal

abbrev pub invariant-loop-path : goal.invariant-loop-path
invariant-loop-path g l = IsAsked g.H.Host.tells l.fn.tree l.tree
    × Told g.H.Host.tells (list_any (λ path. nat_lt 268435456 (size_at (tree_in l.fn.tree) path)) (take l.path-index l.paths) ≡ false)
    × Told g.H.Host.tells (l.total ≡ min (24 + length l.text + sum_by (frame_share (tree_in l.fn.tree)) (take l.path-index l.paths)) 18446744073709551615)
