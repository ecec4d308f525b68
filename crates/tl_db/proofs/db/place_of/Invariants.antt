use Rattle.std.proofs.Common.{◌≡◌, ℕ, ◌<◌, ◌≤◌, ◌-◌, true, get_or, length}
use Rattle.tl_entry.specs.declared.object.Object.{Object}
use Rattle.tl_entry.specs.Rising.{comes_before}
use Rattle.tl_db.proofs.db.place_of.Given as goal

abbrev pub invariant-loop-low : goal.invariant-loop-low
invariant-loop-low l = record {
  in_order : l.low ≤ l.high;
  within : l.high ≤ length l.objects;
  below : (k : ℕ) (d : Object) → k < l.low → comes_before (get_or l.objects k d).name l.name ≡ true;
  above : (k : ℕ) (d : Object) → l.high ≤ k → k < length l.objects → comes_before l.name (get_or l.objects k d).name ≡ true;
}

abbrev pub decreases-loop-low : goal.decreases-loop-low
decreases-loop-low l = l.high - l.low
