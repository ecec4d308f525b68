-- What `check` says.
use Rattle.std.specs.Prelude.{List}
use Rattle.tl_model.specs.Volume.{Volume}
use Rattle.tl_path.specs.declared.kinds.Check.{Check}
use Rattle.tl_entry.specs.declared.object.Object.{Object}
use Rattle.tl_report.specs.Check.{check_text}
use Rattle.tl_command.specs.Runs.{Run, saying}

-- the run of `check` over a tree with these entries: what is wrong with it
abbrev pub check_run : Check → Volume → List Object → Run
check_run what tree entries = saying (check_text what tree entries)
