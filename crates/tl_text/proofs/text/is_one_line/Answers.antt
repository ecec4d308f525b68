use Rattle.std.proofs.Common.{sym}
use Rattle.tl_text.proofs.Ends.{one_line, more_lines}
use Rattle.tl_text.proofs.text.is_one_line.Goals as goal

pub returns-in-Some : goal.returns-in-Some
returns-in-Some c = sym (more_lines _ _ c.in-Some.ensures.0.high c.in-Some.ensures.1)

pub returns-in-None : goal.returns-in-None
returns-in-None c = sym (one_line _ c.in-None.ensures)
