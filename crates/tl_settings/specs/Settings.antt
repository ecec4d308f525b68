-- What `option` says and does.
use Rattle.std.specs.Prelude.{ℕ, List, [], ◌∷◌, ◌++◌, codes, Option, Some, None, Result, Ok, Err}
use Rattle.std.specs.List.{join_with_byte}
use Rattle.tl_model.specs.Volume.{Volume}
use Rattle.tl_entry.specs.declared.object.Object.{Object}
use Rattle.tl_db.specs.Options.{option_name, option_value, option_named, entry_with}
use Rattle.tl_db.specs.declared.options.TreeOption.{TreeOption}
use Rattle.tl_db.specs.declared.options.TreeOption.TheVariants.{Autobackup, Platforms}
use Rattle.tl_db.specs.declared.options.OptionError.{OptionError}
use Rattle.tl_db.specs.declared.options.OptionError.TheVariants as errors
use Rattle.tl_tree.specs.declared.change.Part.TheVariants.{Entry}
use Rattle.tl_refusal.specs.declared.refusal.Refusal.TheVariants.{UnknownOption, BadValue}
use Rattle.tl_command.specs.Runs.{Run, finished, saying, refused, stepping}

-- the line of an option's value
abbrev pub option_line : TreeOption → List Object → List ℕ
option_line option entries = option_name option ++ 32 ∷ option_value option entries ++ 10 ∷ []

-- the lines of all options in the order of their names
abbrev pub option_lines : List Object → List ℕ
option_lines entries = option_line Autobackup entries ++ option_line Platforms entries

-- the line that acknowledges an option's setting
abbrev pub option_label : List ℕ → List ℕ
option_label name = codes "step 1/1 option " ++ name ++ codes " done\n"

-- the run that shows one option
abbrev pub show_run : List ℕ → Option TreeOption → List Object → Run
show_run name None entries = refused (UnknownOption name)
show_run name (Some option) entries = saying (option_line option entries)

-- the run that sets an option: one step that puts the entry which keeps the options; want of memory isn't an answer of that entry
abbrev pub set_run : List ℕ → Result Object OptionError → Volume → List Object → Run
set_run name (Ok entry) tree entries = stepping entries (Entry entry ∷ []) (option_label name) finished tree
set_run name (Err errors.UnknownOption) tree entries = refused (UnknownOption name)
set_run name (Err errors.BadValue) tree entries = refused (BadValue name)
set_run name (Err errors.NoMemory) tree entries = finished

-- the run of `option` over a tree with these entries: all options, one, or the setting of one to the words joined by one space
abbrev pub option_run : Option (List ℕ) → List (List ℕ) → Volume → List Object → Run
option_run None values tree entries = saying (option_lines entries)
option_run (Some name) [] tree entries = show_run name (option_named name) entries
option_run (Some name) (value ∷ values) tree entries = set_run name (entry_with name (join_with_byte 32 (value ∷ values)) entries) tree entries
