use Rattle.std.proofs.Common.{◌≡◌, drop}
use Rattle.tl_bring.specs.Installation.{asked_protected}
use Rattle.tl_bring.proofs.arrivals.refuse_protected.Given as goal

abbrev pub invariant-loop-name : goal.invariant-loop-name
invariant-loop-name l = asked_protected (drop l.name-index l.names) ≡ asked_protected l.names
