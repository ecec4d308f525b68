use Rattle.std.proofs.Common.{◌≡◌, vec_len}
use Rattle.tl_par.proofs.digests.sizes.Given as goal

abbrev pub invariant-loop-frame : goal.invariant-loop-frame
invariant-loop-frame l = vec_len l.sizes ≡ l.frame-index
