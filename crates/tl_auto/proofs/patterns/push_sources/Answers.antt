use Rattle.tl_auto.proofs.patterns.push_sources.Goals as goal

pub returns : goal.returns
returns c = c.push_texts.ensures
