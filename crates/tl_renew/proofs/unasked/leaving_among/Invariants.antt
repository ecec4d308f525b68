use Rattle.std.proofs.Common.{◌≡◌, [], drop}
use Rattle.std.specs.Prelude.{filter}
use Rattle.std.specs.Str.{bytes_eq}
use Rattle.indexmap.specs.IndexSet.{insert_all}
use Rattle.tl_renew.specs.Unasked.{may_leave}
use Rattle.tl_renew.proofs.unasked.leaving_among.Given as goal

abbrev pub invariant-loop-name : goal.invariant-loop-name
invariant-loop-name l = insert_all bytes_eq l.names.keys (filter (may_leave l.pins l.repos l.db) (drop l.name-index l.name-items))
    ≡ insert_all bytes_eq [] (filter (may_leave l.pins l.repos l.db) l.looked.keys)
