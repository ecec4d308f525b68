-- What `dump-tlpdb` says.
use Rattle.std.specs.Prelude.{List}
use Rattle.tl_entry.specs.declared.object.Object.{Object}
use Rattle.tl_db.specs.Text.{db_text}
use Rattle.tl_command.specs.Runs.{Run, saying}

-- the run of `dump-tlpdb` over the entries of a database: their text
abbrev pub dump_run : List Object → Run
dump_run entries = saying (db_text entries)
