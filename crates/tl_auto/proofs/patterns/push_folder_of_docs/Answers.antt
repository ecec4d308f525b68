use Rattle.tl_auto.proofs.patterns.push_folder_of_docs.Goals as goal

pub returns : goal.returns
returns c = c.push_texts.ensures
