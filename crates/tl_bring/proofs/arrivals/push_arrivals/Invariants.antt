use Rattle.std.proofs.Common.{◌≡◌, ◌++◌, drop}
use Rattle.tl_bring.specs.Installation.{arrivals}
use Rattle.tl_bring.proofs.arrivals.push_arrivals.Given as goal

abbrev pub invariant-loop-name : goal.invariant-loop-name
invariant-loop-name l = l.plan.items ++ arrivals l.pins l.repos l.replaced (drop l.name-index l.names) ≡ l.fn.plan.items ++ arrivals l.pins l.repos l.replaced l.names
