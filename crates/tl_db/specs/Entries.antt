-- The entries of a database by their names.
use Rattle.std.specs.Prelude.{ℕ, not, List, Option, find, filter}
use Rattle.tl_model.specs.Volume.{same_name}
use Rattle.tl_entry.specs.declared.object.Object.{Object}

-- the entry with this name; None where no entry has it
abbrev pub entry_of : List ℕ → List Object → Option Object
entry_of name objects = find (λ (o : Object). same_name o.name name) objects

-- the entries that have another name
abbrev pub others : List ℕ → List Object → List Object
others name objects = filter (λ (o : Object). not (same_name o.name name)) objects
