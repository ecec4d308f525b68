use Rattle.std.proofs.Common.{◌≡◌, [], drop}
use Rattle.std.specs.Prelude.{filter}
use Rattle.std.specs.Str.{bytes_eq}
use Rattle.indexmap.specs.IndexSet.{insert_all}
use Rattle.tl_bring.specs.Coming.{comes}
use Rattle.tl_bring.proofs.coming.coming_among.Given as goal

abbrev pub invariant-loop-name : goal.invariant-loop-name
invariant-loop-name l = insert_all bytes_eq l.names.keys (filter (comes l.pins l.repos l.db l.again.keys) (drop l.name-index l.name-items))
    ≡ insert_all bytes_eq [] (filter (comes l.pins l.repos l.db l.again.keys) l.looked.keys)
