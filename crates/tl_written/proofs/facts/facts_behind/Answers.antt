use Rattle.std.proofs.Common.{[], ◌∷◌}
use Rattle.std.specs.Prelude.{codes}
use Rattle.tl_object.specs.Formed.{IsFormedFact}
use Rattle.tl_object.specs.Writing.{fact_line}
use Rattle.tl_written.proofs.StandLemmas.{all-start, all-next}
use Rattle.tl_written.proofs.LeftLemmas.{all_left-start}
use Rattle.tl_written.proofs.FactLemmas.{fact_shorter, facts-next, facts-none}
use Rattle.tl_written.proofs.facts.facts_behind.Goals as goal

pub loop-behind-init : goal.loop-behind-init
loop-behind-init c = record {
  found = all-start fact_line IsFormedFact c.args.text.now;
  kept = all_left-start fact_line IsFormedFact (codes "catalogue-" ∷ []) c.args.text.now;
}

pub loop-behind-smaller : goal.loop-behind-smaller
loop-behind-smaller c = fact_shorter c.loop-behind.rest.now c.in-Some.behind.now c.in-Some.ensures.stands

pub loop-behind-preserved : goal.loop-behind-preserved
loop-behind-preserved c = record {
  found = all-next fact_line IsFormedFact c.args.text.now c.loop-behind.rest.now c.in-Some.behind.now c.loop-behind.invariant.found c.in-Some.ensures.stands;
  kept = facts-next c.args.text.now c.loop-behind.rest.now c.in-Some.behind.now c.loop-behind.invariant.kept c.in-Some.ensures.stands c.in-Some.ensures.finds;
}

pub returns-clause-finds : goal.returns-clause-finds
returns-clause-finds c = facts-none c.args.text.now c.loop-behind.rest.now c.loop-behind.invariant.kept c.in_default.ensures.finds
