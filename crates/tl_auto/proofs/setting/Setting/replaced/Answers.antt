use Rattle.tl_auto.specs.Variables.{value_in}
use Rattle.tl_auto.proofs.ReplaceLemmas.{made_end}
use Rattle.tl_auto.proofs.setting.Setting.replaced.Goals as goal

pub returns-in-End : goal.returns-in-End
returns-in-End c = made_end (value_in c.args.self.now) c.loop-made.made.items c.loop-made.rest.now c.args.text.now c.in-End.ensures c.loop-made.invariant
