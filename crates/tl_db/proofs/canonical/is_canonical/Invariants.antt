use Rattle.std.proofs.Common.{◌≤◌, length}
use Rattle.tl_db.specs.Canonical.{AreInFront}
use Rattle.tl_db.proofs.CanonicalLemmas.{KeepsEntries}
use Rattle.tl_db.proofs.canonical.is_canonical.Given as goal

abbrev pub invariant-loop-last : goal.invariant-loop-last
invariant-loop-last l = record {
  front : AreInFront l.text l.rest l.last l.count;
  few : l.count ≤ 65536;
  kept : KeepsEntries l.text l.rest l.last l.count;
}

abbrev pub decreases-loop-last : goal.decreases-loop-last
decreases-loop-last l = length l.rest
