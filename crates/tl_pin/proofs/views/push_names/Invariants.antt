use Rattle.std.proofs.Common.{◌≡◌, ◌||◌, ℕ, List, map}
use Rattle.tl_entry.specs.Rising.{has_key}
use Rattle.tl_pin.proofs.views.push_names.Given as goal

abbrev pub invariant-loop-entry : goal.invariant-loop-entry
invariant-loop-entry l =
    (name : List ℕ) → (has_key (λ n. n) name (map (λ n. n.now) l.names.items) || has_key (λ o. o.name) name l.entry-iterator.rest.now)
    ≡ (has_key (λ n. n) name (map (λ n. n.now) l.initial.names.items) || has_key (λ o. o.name) name l.db)
