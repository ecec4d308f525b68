-- Plans in which nothing comes.
use Rattle.std.proofs.Common.{◌≡◌, ℕ, List, [], ◌∷◌, refl, ap}
use Rattle.std.specs.Prelude.{map}
use Rattle.tl_entry.specs.declared.object.Object.{Object}
use Rattle.tl_plan.specs.Plans.{plan_steps}
use Rattle.tl_plan.specs.declared.planned.Planned.{Planned}
use Rattle.tl_plan.specs.declared.planned.Planned.TheVariants.{Remove}

-- where packages only leave, each does so in a step of its own
pub removes_alone : (db : List Object) (names : List (List ℕ)) → plan_steps db (map Remove names) ≡ map (λ (name : List ℕ). Remove name ∷ []) names
removes_alone db [] = refl
removes_alone db (name ∷ names) = ap (λ (steps : List (List Planned)). (Remove name ∷ []) ∷ steps) (removes_alone db names)
