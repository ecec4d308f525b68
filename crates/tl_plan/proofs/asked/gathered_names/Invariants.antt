use Rattle.std.proofs.Common.{◌≡◌, ◌||◌, ℕ, List, map}
use Rattle.std.specs.List.{list_any}
use Rattle.tl_plan.specs.Removal.{is_among, gathers}
use Rattle.tl_plan.proofs.asked.gathered_names.Given as goal

abbrev pub invariant-loop-entry : goal.invariant-loop-entry
invariant-loop-entry l = (name : List ℕ)
    → (is_among name l.names.keys || list_any (gathers (map (λ platform. platform.items) l.platforms) l.asked.keys name) l.entry-iterator.rest.now)
    ≡ list_any (gathers (map (λ platform. platform.items) l.platforms) l.asked.keys name) l.db
