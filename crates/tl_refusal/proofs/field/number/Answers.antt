use Rattle.std.proofs.Common.{arith}
use Rattle.tl_object.proofs.PlainLemmas.{line_of_number}
use Rattle.tl_refusal.proofs.field.number.Goals as goal

pub returns-clause-line : goal.returns-clause-line
returns-clause-line c = line_of_number c.args.number (omega arith)
