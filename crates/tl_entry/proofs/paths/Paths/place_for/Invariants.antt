use Rattle.std.proofs.Common.{◌≡◌, ℕ, ◌<◌, ◌≤◌, ◌-◌, true, get_or, length, List}
use Rattle.tl_entry.specs.Rising.{comes_before}
use Rattle.tl_entry.proofs.paths.Paths.place_for.Given as goal

abbrev pub invariant-loop-low : goal.invariant-loop-low
invariant-loop-low l = record {
  in_order : l.low ≤ l.high;
  within : l.high ≤ length l.self;
  below : (k : ℕ) (d : List ℕ) → k < l.low → comes_before (get_or l.self k d) l.path ≡ true;
  above : (k : ℕ) (d : List ℕ) → l.high ≤ k → k < length l.self → comes_before l.path (get_or l.self k d) ≡ true;
}

abbrev pub decreases-loop-low : goal.decreases-loop-low
decreases-loop-low l = l.high - l.low
