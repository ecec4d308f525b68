use Rattle.tl_object.proofs.PlainLemmas.{line_of_path}
use Rattle.tl_refusal.proofs.field.placed.Goals as goal

pub returns-clause-line : goal.returns-clause-line
returns-clause-line c = line_of_path c.args.value.now c.text.ensures.path
