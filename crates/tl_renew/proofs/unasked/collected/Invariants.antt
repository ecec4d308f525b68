use Rattle.std.proofs.Common.{◌≡◌, [], map}
use Rattle.std.specs.List.{flat_map}
use Rattle.std.specs.Str.{bytes_eq}
use Rattle.indexmap.specs.IndexSet.{insert_all}
use Rattle.tl_renew.specs.Unasked.{named_installed}
use Rattle.tl_renew.proofs.unasked.collected.Given as goal

abbrev pub invariant-loop-entry : goal.invariant-loop-entry
invariant-loop-entry l =
    insert_all bytes_eq l.names.keys (flat_map (named_installed (map (λ platform. platform.items) l.platforms)) l.entry-iterator.rest.now)
    ≡ insert_all bytes_eq [] (flat_map (named_installed (map (λ platform. platform.items) l.platforms)) l.db)
