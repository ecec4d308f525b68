use Rattle.std.proofs.Common.{◌≡◌, false, length}
use Rattle.tl_frame.specs.States.{Takes, is_spent}
use Rattle.tl_frame.proofs.pieces.FrameReader.feed.Given as goal

abbrev pub invariant-loop-rest : goal.invariant-loop-rest
invariant-loop-rest l = Takes l.initial.self l.self l.fn.piece l.rest l.initial.out.items l.out.items × (is_spent l.self ≡ false)

abbrev pub decreases-loop-rest : goal.decreases-loop-rest
decreases-loop-rest l = length l.rest
