use Rattle.std.proofs.Common.{ap, ◌∙◌}
use Rattle.std.specs.FinMap as map
use Rattle.std.specs.Option.{option_map}
use Rattle.tl_model.specs.Devices.{Verdicts}
use Rattle.tl_regexp.specs.Verdicts.{seen_verdict}
use Rattle.tl_regexp.proofs.VerdictLemmas.{get-verdicts_of}
use Rattle.tl_regexp.proofs.verdicts.VerdictMap.get.Goals as goal

pub returns-in-Some : goal.returns-in-Some
returns-in-Some c = ap (option_map seen_verdict) c.in-Some.ensures.value ∙ get-verdicts_of c.self.inside.by_text.entries c.args.text.now ∙ ap (λ (m : Verdicts). map.get m c.args.text.now) c.self.view_is

pub returns-in-None : goal.returns-in-None
returns-in-None c = ap (option_map seen_verdict) c.in-None.ensures.value ∙ get-verdicts_of c.self.inside.by_text.entries c.args.text.now ∙ ap (λ (m : Verdicts). map.get m c.args.text.now) c.self.view_is
