use Rattle.std.proofs.Common.{◌≡◌, drop, map}
use Rattle.tl_coming.specs.Refused.{clash}
use Rattle.tl_coming.proofs.clashes.refuse_clashes.Given as goal

abbrev pub invariant-loop-place : goal.invariant-loop-place
invariant-loop-place l = clash (map (λ e. e.now) (drop l.place l.coming)) ≡ clash (map (λ e. e.now) l.coming)
