use Rattle.std.proofs.Common.{sym, subst}
use Rattle.tl_model.specs.Lines.{IsLine}
use Rattle.tl_object.proofs.PlainLemmas.{line_of_digest}
use Rattle.tl_object.proofs.write.put_digits.Goals as goal

pub put_line-requires-clause-line : goal.put_line-requires-clause-line
put_line-requires-clause-line c = subst IsLine (sym c.in-Ok.ensures.written) (line_of_digest _)
