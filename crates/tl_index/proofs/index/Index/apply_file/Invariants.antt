use Rattle.tl_index.proofs.SelectLemmas.{WalkedSoFar}
use Rattle.tl_index.proofs.index.Index.apply_file.Given as goal

abbrev pub invariant-loop-place : goal.invariant-loop-place
invariant-loop-place g l = WalkedSoFar l.placed.pattern l.placed.positive l.self l.low l.place l.fn.places l.places (g.L.Ledger.count l.fn.steps) (g.L.Ledger.count l.steps)
