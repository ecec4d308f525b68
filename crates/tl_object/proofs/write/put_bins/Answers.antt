use Rattle.std.proofs.Common.{arith}
use Rattle.std.proofs.lemmas.Grind.{common_steps}
use Rattle.tl_object.specs.Formed.{IsFormedBin}
use Rattle.tl_object.proofs.PlainLemmas.{each_more}
use Rattle.tl_object.proofs.write.put_bins.Goals as goal

pub loop-bin-preserved : goal.loop-bin-preserved
loop-bin-preserved c = record {
  written = grind (arith, common_steps);
  plain = λ p. c.in_ok-put_bin.ensures.plain (c.loop-bin.invariant.plain p);
  formed = each_more IsFormedBin c.args.bins.now c.loop-bin.bin-index c.bin-item.result c.loop-bin-test.true c.bin-item.is c.in_ok-put_bin.ensures.formed c.loop-bin.invariant.formed;
}
