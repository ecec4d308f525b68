use Rattle.std.proofs.Common.{◌≡◌, []}
use Rattle.std.specs.Str.{bytes_eq}
use Rattle.indexmap.specs.IndexSet.{insert_all}
use Rattle.tl_renew.specs.Updated.{updated_among}
use Rattle.tl_renew.proofs.updated.updated_among.Given as goal

abbrev pub invariant-loop-entry : goal.invariant-loop-entry
invariant-loop-entry l = insert_all bytes_eq l.names.keys (updated_among l.pins l.repos l.all l.asked.keys l.entry-iterator.rest.now)
    ≡ insert_all bytes_eq [] (updated_among l.pins l.repos l.all l.asked.keys l.db)
