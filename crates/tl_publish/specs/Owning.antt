-- Which entry has the list among its files, or something above or below it.
use Rattle.std.specs.Prelude.{◌&&◌, not, Bool, List, Option, find, option_map}
use Rattle.std.specs.List.{list_any}
use Rattle.tl_model.specs.Volume.{Name}
use Rattle.tl_path.specs.Components.{is_touching}
use Rattle.tl_path.specs.Reserved.{is_reserved}
use Rattle.tl_entry.specs.declared.object.Object.{Object}
use Rattle.tl_lsr.specs.Lists.{list_path}
use Rattle.tl_tree.specs.Changes.{own}
use Rattle.tl_tree.specs.Owners.{name_of}

-- whether a file of an entry is the list, or above or below it
abbrev pub touches_list : Object → Bool
touches_list entry = list_any (λ path. is_touching path list_path) (own entry)

-- the least name of an entry with such a file; None where no entry has one
abbrev pub list_owner : List Object → Option Name
list_owner db = option_map name_of (find touches_list db)

-- whether a path that an entry lists is such a file: a reserved path is no file of an entry
abbrev pub claims_list : Name → Bool
claims_list path = is_touching path list_path && not (is_reserved path)
