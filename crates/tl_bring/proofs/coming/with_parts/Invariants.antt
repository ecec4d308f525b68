use Rattle.std.proofs.Common.{◌≡◌, [], drop, map}
use Rattle.std.specs.Str.{bytes_eq}
use Rattle.indexmap.specs.IndexSet.{insert_all}
use Rattle.tl_db.specs.Entries.{entry_of}
use Rattle.tl_bring.specs.Coming.{parts_in}
use Rattle.tl_bring.proofs.coming.with_parts.Given as goal

abbrev pub invariant-loop-name : goal.invariant-loop-name
invariant-loop-name l = insert_all bytes_eq l.all.keys (parts_in (λ n. entry_of n l.view) (map (λ platform. platform.items) l.platforms) (drop l.name-index l.names))
    ≡ insert_all bytes_eq (insert_all bytes_eq [] l.names) (parts_in (λ n. entry_of n l.view) (map (λ platform. platform.items) l.platforms) l.names)
