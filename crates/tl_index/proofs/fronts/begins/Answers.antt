use Rattle.std.proofs.Common.{◌∙◌}
use Rattle.tl_index.proofs.FrontLemmas.{starts_as}
use Rattle.tl_index.proofs.fronts.begins.Goals as goal

pub returns : goal.returns
returns c = c.starts_with.ensures.value ∙ starts_as c.args.front.now c.args.text.now
