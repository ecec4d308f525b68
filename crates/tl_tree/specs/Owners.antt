-- Who owns a path.
use Rattle.std.specs.Prelude.{List, Option, find, option_map}
use Rattle.tl_model.specs.Volume.{Name}
use Rattle.tl_entry.specs.Rising.{has_key}
use Rattle.tl_entry.specs.declared.object.Object.{Object}
use Rattle.tl_tree.specs.Changes.{own}

-- the name of an entry
abbrev pub name_of : Object → Name
name_of entry = entry.name

-- the least name of an entry among whose files a path is; None where no entry has it
abbrev pub owner_of : Name → List Object → Option Name
owner_of path db = option_map name_of (find (λ (entry : Object). has_key (λ (p : Name). p) path (own entry)) db)
