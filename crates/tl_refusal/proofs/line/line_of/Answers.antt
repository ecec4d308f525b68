use Rattle.tl_refusal.proofs.Plain.{plain-refusal}
use Rattle.tl_refusal.proofs.line.line_of.Goals as goal

pub returns-clause-plain : goal.returns-clause-plain
returns-clause-plain c = plain-refusal c.args.refusal.now c.fields-fields.ensures.lines
