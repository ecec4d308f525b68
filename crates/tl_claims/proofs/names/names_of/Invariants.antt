use Rattle.std.proofs.Common.{◌≡◌, map, take}
use Rattle.tl_entry.specs.declared.object.Object.{Object}
use Rattle.tl_claims.proofs.names.names_of.Given as goal

abbrev pub invariant-loop-object : goal.invariant-loop-object
invariant-loop-object l = l.names.items ≡ map (λ (o : Object). o.name) (take l.object-index l.objects)
