use Rattle.std.proofs.Common.{subst, sym}
use Rattle.tl_model.specs.Lines.{IsLine}
use Rattle.tl_db.proofs.OptionLemmas.{value_is_line}
use Rattle.tl_db.proofs.db.Db.option.Goals as goal

pub returns-in_ok-option_value-in-Some-clause-line : goal.returns-in_ok-option_value-in-Some-clause-line
returns-in_ok-option_value-in-Some-clause-line c =
    subst IsLine (sym c.in_ok-option_value-in-Some.ensures) (value_is_line c.in-Some.option c.args.self.now)
