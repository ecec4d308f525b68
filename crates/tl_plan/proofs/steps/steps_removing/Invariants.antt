use Rattle.std.proofs.Common.{◌≡◌, ℕ, List, [], ◌∷◌, map}
use Rattle.tl_plan.specs.declared.planned.Planned.TheVariants.{Remove}
use Rattle.tl_plan.proofs.steps.steps_removing.Given as goal

abbrev pub invariant-loop-name : goal.invariant-loop-name
invariant-loop-name l = l.steps.items ≡ map (λ (name : List ℕ). Remove name ∷ []) l.yielded
