use Rattle.std.proofs.lemmas.Bool.Decides.{Decides-eqb}
use Rattle.std.proofs.lemmas.Slice.Eq.{strip_prefix_is}
use Rattle.tl_written.proofs.LineLemmas.{if_some, if_none}
use Rattle.tl_written.proofs.lines.behind.Goals as goal

pub returns : goal.returns
returns c =
    let either = strip_prefix_is Decides-eqb c.args.text.now c.args.word.now c.strip_prefix.result c.strip_prefix.ensures.cases in
    record { stands = if_some _ _ c.strip_prefix.result either; none = if_none _ _ c.strip_prefix.result either }
