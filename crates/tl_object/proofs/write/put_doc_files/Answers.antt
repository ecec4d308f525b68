use Rattle.std.proofs.Common.{arith}
use Rattle.std.proofs.lemmas.Grind.{common_steps}
use Rattle.tl_object.specs.Formed.{IsFormedFile}
use Rattle.tl_object.proofs.PlainLemmas.{plain_written, each_more}
use Rattle.tl_object.proofs.write.put_doc_files.Goals as goal

pub loop-file-preserved : goal.loop-file-preserved
loop-file-preserved c = record {
  written = grind (arith, common_steps);
  plain = λ p. plain_written _ _ _ c.in_ok-put_file.ensures.written c.in_ok-put_file.ensures.plain (c.loop-file.invariant.plain p);
  formed = each_more IsFormedFile c.args.files.now c.loop-file.file-index c.file-item.result c.loop-file-test.true c.file-item.is c.in_ok-put_file.ensures.formed c.loop-file.invariant.formed;
}
