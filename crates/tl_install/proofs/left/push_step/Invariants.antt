use Rattle.std.proofs.Common.{◌≡◌, ◌++◌, take}
use Rattle.tl_tree.specs.Conditions.{spoken_names}
use Rattle.tl_coming.specs.Made.{made_parts}
use Rattle.tl_install.proofs.left.push_step.Given as goal

abbrev pub invariant-loop-part : goal.invariant-loop-part
invariant-loop-part l = l.names.items ≡ l.initial.names.items ++ spoken_names (made_parts l.repos (take l.part-index l.step))
