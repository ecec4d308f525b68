use Rattle.tl_object.proofs.PlainLemmas.{plain_path_line}
use Rattle.tl_object.proofs.write.put_path.Goals as goal

pub returns-clause-plain : goal.returns-clause-plain
returns-clause-plain c = plain_path_line c.args.path c.bytes.ensures.path
