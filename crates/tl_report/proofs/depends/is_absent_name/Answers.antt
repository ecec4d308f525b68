use Rattle.tl_report.proofs.DependLemmas.{absent-found}
use Rattle.tl_report.proofs.depends.is_absent_name.Goals as goal

pub returns-in-Ok : goal.returns-in-Ok
returns-in-Ok c = absent-found c.get.result c.is_none.result c.in-Ok.name c.args.text.now c.args.db.now c.is_none.ensures c.get.ensures c.in-Ok.ensures.0 c.in-Ok.ensures.1
