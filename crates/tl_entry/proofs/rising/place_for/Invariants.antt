use Rattle.std.proofs.Common.{◌≡◌, ℕ, ◌<◌, ◌≤◌, ◌-◌, true, get_or, length}
use Rattle.tl_entry.specs.Rising.{comes_before}
use Rattle.tl_entry.proofs.rising.place_for.Given as goal

abbrev pub invariant-loop-low : goal.invariant-loop-low
invariant-loop-low g l = record {
  in_order : l.low ≤ l.high;
  within : l.high ≤ length l.items;
  below : (k : ℕ) (d : _) → k < l.low → comes_before (g.T.Keyed.key (get_or l.items k d)) l.wanted ≡ true;
  above : (k : ℕ) (d : _) → l.high ≤ k → k < length l.items → comes_before l.wanted (g.T.Keyed.key (get_or l.items k d)) ≡ true;
}

abbrev pub decreases-loop-low : goal.decreases-loop-low
decreases-loop-low g l = l.high - l.low
