use Rattle.std.proofs.Common.{◌∙◌}
use Rattle.tl_report.proofs.ByteLemmas.{found-bytes}
use Rattle.tl_report.proofs.finding.has_bytes.Goals as goal

pub returns : goal.returns
returns c = c.is_some.ensures ∙ found-bytes c.args.word.now c.args.text.now c.find.result c.find.ensures
