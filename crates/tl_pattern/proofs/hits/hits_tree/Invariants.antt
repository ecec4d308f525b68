use Rattle.std.proofs.Common.{◌≡◌, drop}
use Rattle.tl_path.specs.Components.{components}
use Rattle.tl_path.specs.Inside.{components_left}
use Rattle.tl_pattern.specs.Hits.{hits_tree}
use Rattle.tl_pattern.proofs.hits.hits_tree.Given as goal

abbrev pub invariant-loop-word : goal.invariant-loop-word
invariant-loop-word l = hits_tree (drop l.word-index l.words) l.fn.name (components_left l.names) ≡ hits_tree l.words l.fn.name (components l.path)
