-- The executes that don't read.
use Rattle.std.specs.Prelude.{ℕ, Bool, List, map, filter, is_err}
use Rattle.std.specs.List.{flat_map}
use Rattle.tl_entry.specs.declared.object.Object.{Object}
use Rattle.tl_execute.specs.Executes.{read_execute}
use Rattle.tl_report.specs.Lines.{line_of}
use Rattle.tl_report.specs.declared.lines.Finding.TheVariants.{Execute}

-- whether an execute doesn't read
abbrev pub is_unread : List ℕ → Bool
is_unread text = is_err (read_execute text)

-- a line for each execute of an entry that doesn't read
abbrev pub unread_lines : Object → List (List ℕ)
unread_lines o = map (line_of Execute o.name) (filter is_unread o.executes)

-- those of all entries
abbrev pub execute_lines : List Object → List (List ℕ)
execute_lines db = flat_map unread_lines db
