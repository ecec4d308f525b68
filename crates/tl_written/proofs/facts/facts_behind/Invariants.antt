use Rattle.std.proofs.Common.{[], ◌∷◌, length}
use Rattle.std.specs.Prelude.{codes}
use Rattle.tl_object.specs.Formed.{IsFormedFact}
use Rattle.tl_object.specs.Writing.{fact_line}
use Rattle.tl_written.specs.Pieces.{FactsStand}
use Rattle.tl_written.proofs.LeftLemmas.{KeepsAll}
use Rattle.tl_written.proofs.facts.facts_behind.Given as goal

abbrev pub invariant-loop-behind : goal.invariant-loop-behind
invariant-loop-behind l = record { found : FactsStand l.text l.rest; kept : KeepsAll fact_line IsFormedFact (codes "catalogue-" ∷ []) l.text l.rest }

abbrev pub decreases-loop-behind : goal.decreases-loop-behind
decreases-loop-behind l = length l.rest
