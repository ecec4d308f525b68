use Rattle.std.proofs.Common.{◌<◌, length, [], ◌∙◌, arith}
use Rattle.std.proofs.lemmas.Grind.{common_steps}
use Rattle.std.proofs.lemmas.List.{get_or_default}
use Rattle.tl_path.specs.Path.{IsPath}
use Rattle.tl_object.proofs.PlainLemmas.{plain_written, each_more}
use Rattle.tl_object.proofs.write.put_paths.Goals as goal

pub loop-index-preserved : goal.loop-index-preserved
loop-index-preserved c =
    let paths = c.args.paths.now in let index = c.loop-index.index in let path = c.at.result in
    let lt : index < length paths = omega (arith, c.len-index-end.ensures.len, c.loop-index-test.true) in
    let here = c.at.ensures.path ∙ get_or_default paths index [] path lt in
    record {
      written = grind (arith, common_steps);
      plain = λ p. plain_written _ _ _ c.in_ok-put_path.ensures.written c.in_ok-put_path.ensures.plain (c.loop-index.invariant.plain p);
      formed = each_more IsPath paths index path lt here c.in_ok-put_path.ensures.formed c.loop-index.invariant.formed;
    }
