use Rattle.std.proofs.Common.{sym, ◌∙◌}
use Rattle.tl_path.specs.Bytes.{is_barred}
use Rattle.tl_path.proofs.Scan.{position-none}
use Rattle.tl_path.proofs.fault.first_barred.Goals as goal

pub returns-else-has_barred-clause-place : goal.returns-else-has_barred-clause-place
returns-else-has_barred-clause-place c = sym (position-none is_barred c.args.text.now (sym c.has_barred.ensures ∙ c.if-has_barred.false))
