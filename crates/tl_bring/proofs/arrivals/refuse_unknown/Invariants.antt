use Rattle.std.proofs.Common.{◌≡◌, drop}
use Rattle.tl_bring.specs.Installation.{asked_unknown}
use Rattle.tl_bring.proofs.arrivals.refuse_unknown.Given as goal

abbrev pub invariant-loop-name : goal.invariant-loop-name
invariant-loop-name l = asked_unknown l.pins l.repos (drop l.name-index l.names) ≡ asked_unknown l.pins l.repos l.names
