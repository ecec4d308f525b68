use Rattle.tl_index.proofs.SelectLemmas.{ChosenSoFar}
use Rattle.tl_index.proofs.index.Index.select.Given as goal

abbrev pub invariant-loop-placed : goal.invariant-loop-placed
invariant-loop-placed g l = ChosenSoFar l.patterns l.self l.placed-index l.places (g.L.Ledger.count l.fn.steps) (g.L.Ledger.count l.steps)
