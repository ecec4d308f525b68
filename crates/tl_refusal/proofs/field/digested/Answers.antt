use Rattle.tl_object.proofs.PlainLemmas.{line_of_digest}
use Rattle.tl_refusal.proofs.field.digested.Goals as goal

pub returns-clause-line : goal.returns-clause-line
returns-clause-line c = line_of_digest c.args.value.now
