-- What `check` says of a tree.
use Rattle.std.specs.Prelude.{ℕ, List, ◌++◌}
use Rattle.tl_model.specs.Volume.{Volume}
use Rattle.tl_path.specs.declared.kinds.Check.{Check}
use Rattle.tl_path.specs.declared.kinds.Check.TheVariants.{Files, Depends, Duplicates, Executes, All as AllChecks}
use Rattle.tl_entry.specs.declared.object.Object.{Object}
use Rattle.tl_report.specs.Lines.{in_order}
use Rattle.tl_report.specs.Missing.{missing_lines}
use Rattle.tl_report.specs.Depends.{depend_lines}
use Rattle.tl_report.specs.Duplicates.{duplicate_lines}
use Rattle.tl_report.specs.Executes.{execute_lines}

-- the lines of all checks, one check after the other
abbrev pub all_text : Volume → List Object → List ℕ
all_text tree db = in_order (missing_lines tree db) ++ in_order (depend_lines db) ++ in_order (duplicate_lines db) ++ in_order (execute_lines db)

-- what a check says of a tree with these entries
abbrev pub check_text : Check → Volume → List Object → List ℕ
check_text Files tree db = in_order (missing_lines tree db)
check_text Depends tree db = in_order (depend_lines db)
check_text Duplicates tree db = in_order (duplicate_lines db)
check_text Executes tree db = in_order (execute_lines db)
check_text AllChecks tree db = all_text tree db
