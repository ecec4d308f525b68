use Rattle.std.proofs.Common.{◌≡◌, ℕ, List, length}
use Rattle.tl_model.specs.Volume.{Volume}
use Rattle.tl_memhost.proofs.Back.{IsBack}
use Rattle.tl_memhost.proofs.host.MemHost.said_before.Given as goal

abbrev pub decreases-loop-left : goal.decreases-loop-left
decreases-loop-left l = l.left

abbrev pub invariant-loop-left : goal.invariant-loop-left
invariant-loop-left l = (v : Volume) × (s : List ℕ) × (l.said ≡ length s) × IsBack l.call l.self-inside.record.items l.self-inside.files l.self-inside.said.items l.left v s
