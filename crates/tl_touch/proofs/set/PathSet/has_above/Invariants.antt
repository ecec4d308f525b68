use Rattle.std.proofs.Common.{◌≡◌, ◌<◌, ℕ, List, false, take, get_or}
use Rattle.tl_entry.specs.Rising.{has_key}
use Rattle.tl_touch.proofs.set.PathSet.has_above.Given as goal

abbrev pub invariant-loop-end : goal.invariant-loop-end
invariant-loop-end l = (k : ℕ) → k < l.end → get_or l.path k 0 ≡ 47 → has_key (λ (p : List ℕ). p) (take k l.path) l.self ≡ false
