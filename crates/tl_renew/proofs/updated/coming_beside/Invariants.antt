use Rattle.std.proofs.Common.{◌≡◌, [], drop}
use Rattle.std.specs.Prelude.{filter}
use Rattle.std.specs.Str.{bytes_eq}
use Rattle.indexmap.specs.IndexSet.{insert_all}
use Rattle.tl_renew.specs.Updated.{comes_beside}
use Rattle.tl_renew.proofs.updated.coming_beside.Given as goal

abbrev pub invariant-loop-name : goal.invariant-loop-name
invariant-loop-name l = insert_all bytes_eq l.names.keys (filter (comes_beside l.pins l.repos l.db l.updated.keys) (drop l.name-index l.name-items))
    ≡ insert_all bytes_eq [] (filter (comes_beside l.pins l.repos l.db l.updated.keys) l.looked.keys)
