use Rattle.std.proofs.Common.{◌≤◌, length}
use Rattle.tl_real.proofs.making.fill.Given as goal

abbrev pub invariant-loop : goal.invariant-loop
invariant-loop l = l.done ≤ length l.into
