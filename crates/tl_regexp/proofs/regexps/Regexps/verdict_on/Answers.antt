use Rattle.std.proofs.Common.{sym, ap, ◌∙◌}
use Rattle.std.specs.FinMap as map
use Rattle.tl_model.specs.Devices.{RegexpsSeen}
use Rattle.tl_regexp.specs.Verdicts.{verdicts_or_none}
use Rattle.tl_regexp.proofs.regexps.Regexps.verdict_on.Goals as goal

pub returns-in-None : goal.returns-in-None
returns-in-None c =
    sym (ap (λ (s : RegexpsSeen). map.get s.verdicts c.args.text.now) (sym c.self.view_is) ∙ ap (λ o. map.get (verdicts_or_none o) c.args.text.now) c.in-None.is ∙ map.get-empty _ c.args.text.now)
