-- What a command of steps says last of formats.
use Rattle.std.specs.Prelude.{Bool, true, false, List, Option, Some, None}
use Rattle.tl_model.specs.Volume.{Volume}
use Rattle.tl_entry.specs.declared.object.Object.{Object}
use Rattle.tl_trigger.specs.Stale.{stale, format_lines}
use Rattle.tl_command.specs.Runs.{Run, finished, saying}

-- the entries before the first step, where the formats to be made anew are asked for
abbrev pub before_of : Bool → List Object → Option (List Object)
before_of false db = None
before_of true db = Some db

-- the run that is left of a command when its steps are made: where the entries before the first one are given, it says the formats that
-- have to be made anew, a line for each
abbrev pub formats_end : Option (List Object) → List Object → Volume → Run
formats_end None db tree = finished
formats_end (Some old) db tree = saying (format_lines (stale old db))
