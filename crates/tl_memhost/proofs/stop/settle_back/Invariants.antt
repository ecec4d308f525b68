use Rattle.std.proofs.Common.{◌≡◌, ◌≤◌, length, take, reverse}
use Rattle.tl_memhost.specs.Record.{settled_of}
use Rattle.tl_memhost.proofs.stop.settle_back.Given as goal

abbrev pub decreases-loop-count : goal.decreases-loop-count
decreases-loop-count l = l.count

abbrev pub invariant-loop-count : goal.invariant-loop-count
invariant-loop-count l = record {
  within : l.count ≤ length l.«record»;
  same : settled_of (reverse l.«record») l.fn.files ≡ settled_of (reverse (take l.count l.«record»)) l.files;
}
