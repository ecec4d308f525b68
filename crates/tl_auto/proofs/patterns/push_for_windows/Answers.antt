use Rattle.tl_auto.proofs.patterns.push_for_windows.Goals as goal

pub returns : goal.returns
returns c = c.push_each.ensures
