use Rattle.std.proofs.Common.{◌∙◌, ap, subst}
use Rattle.std.specs.FinMap as map
use Rattle.tl_model.specs.Devices.{Verdicts}
use Rattle.tl_regexp.specs.Verdicts.{seen_verdict, verdicts_or_none}
use Rattle.tl_regexp.specs.Answers.{MayAllStand}
use Rattle.tl_regexp.proofs.VerdictLemmas.{stands_with, stands_after, stands_empty}
use Rattle.tl_regexp.proofs.regexps.Regexps.add.Goals as goal

pub invariant_of-self : goal.invariant_of-self
invariant_of-self c = stands_after c.insert.result c.in-Some.kept c.insert.new.self c.args.text.now (seen_verdict c.args.verdict)
    (subst (λ o. MayAllStand (verdicts_or_none o)) c.in-Some.is c.self.invariant) c.requires c.insert.ensures.ok c.insert.ensures.err

pub invariant_of-self-in-None : goal.invariant_of-self-in-None
invariant_of-self-in-None c = stands_with map.empty _ c.args.text.now (seen_verdict c.args.verdict) stands_empty c.requires
    (c.in_ok-insert-in-None.ensures.ok ∙ ap (λ (m : Verdicts). map.insert m c.args.text.now (seen_verdict c.args.verdict)) c.new-kept.ensures)
