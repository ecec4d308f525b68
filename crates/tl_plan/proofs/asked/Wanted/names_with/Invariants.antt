use Rattle.std.proofs.Common.{◌≡◌, []}
use Rattle.std.specs.Str.{bytes_eq}
use Rattle.indexmap.specs.IndexSet.{insert_all}
use Rattle.tl_plan.specs.Removal.{names_by}
use Rattle.tl_plan.specs.Wanted.{leaves_by}
use Rattle.tl_plan.proofs.asked.Wanted.names_with.Given as goal

abbrev pub invariant-loop-entry : goal.invariant-loop-entry
invariant-loop-entry l =
    insert_all bytes_eq l.names.keys (names_by (leaves_by l.self) l.parts.keys l.entry-iterator.rest.now)
    ≡ insert_all bytes_eq [] (names_by (leaves_by l.self) l.parts.keys l.db)
