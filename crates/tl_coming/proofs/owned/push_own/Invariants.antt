use Rattle.std.proofs.Common.{◌≡◌, ◌++◌}
use Rattle.tl_coming.proofs.owned.push_own.Given as goal

abbrev pub invariant-loop-file : goal.invariant-loop-file
invariant-loop-file l = l.files.items ≡ l.fn.files.items ++ l.yielded
