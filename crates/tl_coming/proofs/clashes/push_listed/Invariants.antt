use Rattle.std.proofs.Common.{◌≡◌, ◌++◌}
use Rattle.tl_coming.proofs.clashes.push_listed.Given as goal

abbrev pub invariant-loop-path : goal.invariant-loop-path
invariant-loop-path l = l.paths.items ≡ l.fn.paths.items ++ l.yielded
