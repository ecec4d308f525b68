use Rattle.std.proofs.Common.{◌≡◌, ◌||◌, ℕ, List, map}
use Rattle.std.specs.List.{list_any}
use Rattle.tl_depend.specs.Needed.{needs_name}
use Rattle.tl_plan.specs.Removal.{is_among}
use Rattle.tl_plan.proofs.asked.needed_names.Given as goal

abbrev pub invariant-loop-entry : goal.invariant-loop-entry
invariant-loop-entry l = (name : List ℕ)
    → (is_among name l.names.keys || list_any (needs_name (map (λ platform. platform.items) l.platforms) name l.asked.keys) l.entry-iterator.rest.now)
    ≡ list_any (needs_name (map (λ platform. platform.items) l.platforms) name l.asked.keys) l.db
