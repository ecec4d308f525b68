use Rattle.std.proofs.Common.{sym, ◌∙◌}
use Rattle.tl_object.proofs.LineLemmas.{head_of_line-file, head_of_line-head, head_of_line-other}
use Rattle.tl_object.proofs.head.head_of_line.Goals as goal

pub returns-in-Ok : goal.returns-in-Ok
returns-in-Ok c = head_of_line-file c.args.line.now (sym c.starts_file.ensures ∙ c.if-starts_file.true) c.in-Ok.ensures.cases.1

pub returns-in-Ok-2 : goal.returns-in-Ok-2
returns-in-Ok-2 c = rw (head_of_line-head c.args.line.now (sym c.starts_file.ensures ∙ c.if-starts_file.false) c.in-Ok-2.ensures.cases.1) c.head_value.ensures

pub returns-in-Err : goal.returns-in-Err
returns-in-Err c = head_of_line-other c.args.line.now c.in-Err.ensures.cases.0
