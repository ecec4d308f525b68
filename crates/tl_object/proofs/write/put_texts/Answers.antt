use Rattle.std.proofs.Common.{arith}
use Rattle.std.proofs.lemmas.Grind.{common_steps}
use Rattle.tl_text.specs.Texts.{IsText}
use Rattle.tl_object.proofs.PlainLemmas.{each_more}
use Rattle.tl_object.proofs.write.put_texts.Goals as goal

pub loop-text-preserved : goal.loop-text-preserved
loop-text-preserved c = record {
  written = grind (arith, common_steps);
  plain = λ p. c.in_ok-put_line.ensures.plain (c.loop-text.invariant.plain p);
  formed = each_more IsText c.args.texts.now c.loop-text.text-index c.text-item.result c.loop-text-test.true c.text-item.is c.bytes.ensures.is_text c.loop-text.invariant.formed;
}
