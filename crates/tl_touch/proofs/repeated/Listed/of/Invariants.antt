use Rattle.std.proofs.Common.{take}
use Rattle.tl_touch.proofs.Repeats.{HasSeen}
use Rattle.tl_touch.proofs.repeated.Listed.of.Given as goal

abbrev pub invariant-loop-path : goal.invariant-loop-path
invariant-loop-path l = HasSeen (take l.path-index l.paths) l.seen.keys l.again.items
