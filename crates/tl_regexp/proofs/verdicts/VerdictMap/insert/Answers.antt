use Rattle.std.proofs.Common.{ℕ, List, ap, ◌∙◌}
use Rattle.std.specs.FinMap as map
use Rattle.tl_model.specs.Devices.{Verdicts}
use Rattle.tl_regexp.specs.Verdicts.{seen_verdict, verdicts_of}
use Rattle.tl_regexp.proofs.VerdictLemmas.{verdicts_of-insert_entry}
use Rattle.tl_regexp.proofs.verdicts.VerdictMap.insert.Goals as goal

pub returns-clause-ok : goal.returns-clause-ok
returns-clause-ok c = ap verdicts_of c.in_ok-insert.ensures.entries
    ∙ verdicts_of-insert_entry c.self.inside.by_text.entries c.in_ok-text.text c.args.verdict
    ∙ ap (λ (k : List ℕ). map.insert (verdicts_of c.self.inside.by_text.entries) k (seen_verdict c.args.verdict)) c.in_ok-text.ensures.items
    ∙ ap (λ (m : Verdicts). map.insert m c.args.text.now (seen_verdict c.args.verdict)) c.self.view_is
