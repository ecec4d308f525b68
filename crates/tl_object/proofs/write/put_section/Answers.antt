use Rattle.tl_object.proofs.PlainLemmas.{line_of_number}
use Rattle.tl_object.proofs.write.put_section.Goals as goal

pub returns-clause-digits : goal.returns-clause-digits
returns-clause-digits c = line_of_number c.args.blocks c.ranges.blocks.fits
