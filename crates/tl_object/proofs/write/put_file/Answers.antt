use Rattle.tl_object.proofs.PlainLemmas.{plain_file_line}
use Rattle.tl_object.proofs.write.put_file.Goals as goal

pub returns-clause-plain : goal.returns-clause-plain
returns-clause-plain c = rw (← c.file.view_is) (plain_file_line _ c.bytes.ensures.path c.in_ok-put_mark.ensures.line c.in_ok-put_mark-2.ensures.line)
