use Rattle.tl_index.proofs.SelectLemmas.{WalkedSoFar}
use Rattle.std.proofs.Common.{◌≡◌}
use Rattle.tl_index.proofs.index.Index.apply_all.Given as goal

abbrev pub invariant-loop-place : goal.invariant-loop-place
invariant-loop-place g l = record {
  walked : WalkedSoFar l.placed.pattern l.placed.positive l.self 0 l.place l.fn.places l.places (g.L.Ledger.count l.fn.steps) (g.L.Ledger.count l.steps);
  matcher : l.matcher ≡ l.placed.pattern.text;
}
