use Rattle.tl_object.proofs.PlainLemmas.{line_of_mark}
use Rattle.tl_object.proofs.write.put_mark.Goals as goal

pub returns-in_ok-push-2-clause-line : goal.returns-in_ok-push-2-clause-line
returns-in_ok-push-2-clause-line c = rw c.in-Some.is (line_of_mark c.args.word.now _ c.requires c.bytes.ensures.is_text)
