use Rattle.std.proofs.Common.{◌≡◌, take}
use Rattle.tl_install.specs.Left.{spoken_in}
use Rattle.tl_install.proofs.left.spoken_in.Given as goal

abbrev pub invariant-loop-step : goal.invariant-loop-step
invariant-loop-step l = l.names.items ≡ spoken_in l.repos (take l.step-index l.steps)
