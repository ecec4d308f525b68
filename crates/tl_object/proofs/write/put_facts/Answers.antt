use Rattle.std.proofs.Common.{arith}
use Rattle.std.proofs.lemmas.Grind.{common_steps}
use Rattle.tl_object.specs.Formed.{IsFormedFact}
use Rattle.tl_object.proofs.PlainLemmas.{plain_written, each_more}
use Rattle.tl_object.proofs.write.put_facts.Goals as goal

pub loop-fact-preserved : goal.loop-fact-preserved
loop-fact-preserved c = record {
  written = grind (arith, common_steps);
  plain = λ p. plain_written _ _ _ c.in_ok-put_fact.ensures.written c.in_ok-put_fact.ensures.plain (c.loop-fact.invariant.plain p);
  formed = each_more IsFormedFact c.args.facts.now c.loop-fact.fact-index c.fact-item.result c.loop-fact-test.true c.fact-item.is c.in_ok-put_fact.ensures.formed c.loop-fact.invariant.formed;
}
