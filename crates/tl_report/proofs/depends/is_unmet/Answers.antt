use Rattle.std.proofs.Common.{Bor, List, ℕ, map, ◌∙◌}
use Rattle.std.proofs.lemmas.Result.{IfOk-weaker}
use Rattle.tl_report.proofs.DependLemmas.{unmet-arch, unmet-name}
use Rattle.tl_report.proofs.depends.is_unmet.Goals as goal

pub returns-in-Some : goal.returns-in-Some
returns-in-Some c = IfOk-weaker c.is_absent_on.result _ _ (λ unmet is. is ∙ unmet-arch c.args.db.now c.args.platforms.now c.args.depend.now c.in-Some.front.now c.in-Some.ensures.cases.0 c.in-Some.ensures.cases.1) c.is_absent_on.ensures

pub returns-in-None : goal.returns-in-None
returns-in-None c = IfOk-weaker c.is_absent_name.result _ _ (λ unmet is. is ∙ unmet-name c.args.db.now (map (λ (p : Bor (List ℕ)). p.now) c.args.platforms.now) c.args.depend.now c.in-None.ensures.cases) c.is_absent_name.ensures
