use Rattle.std.proofs.Common.{rules, append_assoc}
use Rattle.std.proofs.lemmas.Result.{IfOk-equal}
use Rattle.tl_object.specs.Writing.{file_lines}
use Rattle.tl_object.proofs.write.put_all_files.Goals as goal

pub returns-clause-written : goal.returns-clause-written
unfolding file_lines
returns-clause-written c = search (rules, IfOk-equal, append_assoc)
