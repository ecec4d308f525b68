use Rattle.std.proofs.Common.{◌≡◌, ◌++◌, drop}
use Rattle.std.specs.List.{flat_map}
use Rattle.tl_config.specs.Files.{lines_of}
use Rattle.tl_config.proofs.file.push_executes.Given as goal

abbrev pub invariant-loop-execute : goal.invariant-loop-execute
invariant-loop-execute l =
    l.out.items ++ flat_map (lines_of l.file) (drop l.execute-index l.executes) ≡ l.initial.out.items ++ flat_map (lines_of l.file) l.executes
