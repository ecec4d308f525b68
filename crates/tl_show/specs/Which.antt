-- What `which` says and refuses.
use Rattle.std.specs.Prelude.{ℕ, List, Option, Some, None, Result, Ok, Err}
use Rattle.tl_model.specs.Lines.{text_of}
use Rattle.tl_model.specs.Volume.{Volume}
use Rattle.tl_kind.specs.declared.quantity.What.TheVariants.{Database}
use Rattle.tl_lsr.specs.Lists.{list_path}
use Rattle.tl_lsr.specs.Reading.{lsr_read, paths_named}
use Rattle.tl_refusal.specs.declared.refusal.Refusal.TheVariants.{NoLsr, BadLsr}
use Rattle.tl_command.specs.Runs.{Run, saying, refused, over_file}

-- the run over the paths that a text lists, or over the number of its first line that can't stand there: a line for each path whose last
-- component is the name
abbrev pub listed_run : List ℕ → Result (List (List ℕ)) ℕ → Run
listed_run name (Ok paths) = saying (text_of (paths_named name paths))
listed_run name (Err line) = refused (BadLsr line)

-- the run over the bytes of the file that lists them
abbrev pub list_run : List ℕ → Option (List ℕ) → Run
list_run name None = refused NoLsr
list_run name (Some text) = listed_run name (lsr_read text)

-- the run of `which` over a tree whose database reads
abbrev pub which_run : List ℕ → Volume → Run
which_run name tree = over_file Database list_path (list_run name) tree
