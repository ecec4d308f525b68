use Rattle.std.proofs.Common.{sym, subst, ◌∙◌}
use Rattle.tl_model.specs.Lines.{IsLine}
use Rattle.tl_object.proofs.PlainLemmas.{line_of_number}
use Rattle.tl_object.proofs.write.put_number.Goals as goal

pub put_line-requires-clause-line : goal.put_line-requires-clause-line
put_line-requires-clause-line c = subst IsLine (sym (c.as_bytes.ensures.value ∙ c.format.ensures.text)) (line_of_number c.args.n c.ranges.n.fits)
