-- The text of a database.
use Rattle.std.specs.Prelude.{ℕ, List, [], ◌∷◌, ◌++◌}
use Rattle.std.specs.List.{flat_map}
use Rattle.tl_entry.specs.declared.object.Object.{Object}
use Rattle.tl_object.specs.Writing.{object_text}

-- an entry and the empty line behind it
abbrev pub entry_text : Object → List ℕ
entry_text object = object_text object ++ 10 ∷ []

-- the entries in the order of their names, each followed by one empty line
abbrev pub db_text : List Object → List ℕ
db_text objects = flat_map entry_text objects
