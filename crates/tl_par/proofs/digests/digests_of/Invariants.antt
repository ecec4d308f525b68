use Rattle.std.proofs.Common.{◌≡◌, map, take}
use Rattle.sha2.specs.Sha512.{sha512}
use Rattle.tl_par.proofs.digests.digests_of.Given as goal

abbrev pub invariant-loop-frame : goal.invariant-loop-frame
invariant-loop-frame l = l.digests.items ≡ map (λ frame. sha512 frame.items) (take l.frame-index l.frames)
