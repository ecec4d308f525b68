use Rattle.std.proofs.Common.{◌≡◌, map}
use Rattle.tl_expand.specs.Objects.{plain_file}
use Rattle.tl_expand.proofs.files.plain_files.Given as goal

abbrev pub invariant-loop-path : goal.invariant-loop-path
invariant-loop-path l = l.files.items ≡ map plain_file l.yielded
