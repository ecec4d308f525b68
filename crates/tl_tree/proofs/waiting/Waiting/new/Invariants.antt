use Rattle.std.proofs.Common.{◌≡◌}
use Rattle.tl_tree.proofs.Sets.{set_of}
use Rattle.tl_tree.proofs.waiting.Waiting.new.Given as goal

abbrev pub invariant-loop-path : goal.invariant-loop-path
invariant-loop-path l = set_of l.set.keys ≡ set_of l.yielded
