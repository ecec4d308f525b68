use Rattle.std.proofs.Common.{refl}
use Rattle.tl_auto.proofs.ReplaceLemmas.{variable_found, never_closed}
use Rattle.tl_auto.proofs.setting.variable_of.Goals as goal

pub returns-in-Some : goal.returns-in-Some
returns-in-Some c = variable_found c.args.text.now _ c.in-Some.end c.in-Some.ensures refl

pub returns-in-None : goal.returns-in-None
returns-in-None c = never_closed c.args.text.now c.in-None.ensures
