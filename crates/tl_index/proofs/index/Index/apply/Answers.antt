use Rattle.tl_index.proofs.SelectLemmas.{words_of_form}
use Rattle.tl_index.proofs.index.Index.apply.Goals as goal

pub apply_tree-requires : goal.apply_tree-requires
apply_tree-requires g c = words_of_form c.args.placed.now.pattern.text c.in-Tree.words.now c.in-Tree.name.now c.in-Tree.ensures.1 c.in-Tree.ensures.2 c.in-Tree.ensures.3
