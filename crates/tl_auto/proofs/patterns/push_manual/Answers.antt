use Rattle.tl_auto.proofs.patterns.push_manual.Goals as goal

pub returns : goal.returns
returns c = c.push_texts.ensures
