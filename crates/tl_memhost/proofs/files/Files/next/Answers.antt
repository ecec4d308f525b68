use Rattle.std.specs.declared.ops.Bound.TheVariants.{Excluded, Unbounded}
use Rattle.tl_memhost.proofs.Held.{named}
use Rattle.tl_memhost.proofs.files.Files.next.Goals as goal

pub returns-in-Some-clause-path : goal.returns-in-Some-clause-path
returns-in-Some-clause-path c = named (Excluded c.in-Some.name) c.self.inside.held.entries c.first_from.result c.first_from.ensures c.self.invariant

pub returns-in-None-clause-path : goal.returns-in-None-clause-path
returns-in-None-clause-path c = named Unbounded c.self.inside.held.entries c.first_from-in-None.result c.first_from-in-None.ensures c.self.invariant
