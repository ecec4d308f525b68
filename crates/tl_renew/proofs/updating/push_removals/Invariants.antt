use Rattle.std.proofs.Common.{◌≡◌, ◌++◌, map}
use Rattle.tl_coming.specs.declared.part.PlanPart.TheVariants.{Remove}
use Rattle.tl_renew.proofs.updating.push_removals.Given as goal

abbrev pub invariant-loop-name : goal.invariant-loop-name
invariant-loop-name l = l.plan.items ≡ l.fn.plan.items ++ map Remove l.yielded
