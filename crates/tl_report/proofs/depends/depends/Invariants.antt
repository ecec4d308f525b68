use Rattle.std.proofs.Common.{◌≡◌, ◌++◌}
use Rattle.std.specs.List.{flat_map}
use Rattle.tl_depend.specs.Needed.{tree_platforms}
use Rattle.tl_report.specs.Depends.{unmet_lines, depend_lines}
use Rattle.tl_report.proofs.depends.depends.Given as goal

abbrev pub invariant-loop-entry : goal.invariant-loop-entry
invariant-loop-entry l = l.lines ++ flat_map (unmet_lines l.db (tree_platforms l.db)) l.entry-iterator.rest.now ≡ depend_lines l.db
