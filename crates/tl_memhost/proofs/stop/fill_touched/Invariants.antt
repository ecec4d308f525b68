use Rattle.std.proofs.Common.{◌≡◌, ◌≤◌, length, take, reverse, cond}
use Rattle.std.specs.Option.{option_map}
use Rattle.std.specs.FinSet as set
use Rattle.tl_model.specs.Volume.{Name, at}
use Rattle.tl_memhost.specs.Record.{touched_of}
use Rattle.tl_memhost.proofs.stop.fill_touched.Given as goal

abbrev pub decreases-loop-count : goal.decreases-loop-count
decreases-loop-count l = l.count

abbrev pub invariant-loop-count : goal.invariant-loop-count
invariant-loop-count l = record {
  within : l.count ≤ length l.«record»;
  same : (name : Name) → cond (set.contains (touched_of (reverse l.«record»)) name) (option_map (λ b. b.now) l.bytes) (at l.fn.files name)
      ≡ cond (set.contains (touched_of (reverse (take l.count l.«record»))) name) (option_map (λ b. b.now) l.bytes) (at l.files name);
}
