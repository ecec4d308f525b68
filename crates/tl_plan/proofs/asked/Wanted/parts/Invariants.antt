use Rattle.std.proofs.Common.{◌≡◌, [], map}
use Rattle.std.specs.Str.{bytes_eq}
use Rattle.indexmap.specs.IndexSet.{insert_all}
use Rattle.tl_plan.specs.Removal.{parts_by}
use Rattle.tl_plan.specs.Wanted.{leaves_by}
use Rattle.tl_plan.proofs.asked.Wanted.parts.Given as goal

abbrev pub invariant-loop-entry : goal.invariant-loop-entry
invariant-loop-entry l =
    insert_all bytes_eq l.parts.keys (parts_by (leaves_by l.self) (map (λ platform. platform.items) l.platforms) l.entry-iterator.rest.now)
    ≡ insert_all bytes_eq [] (parts_by (leaves_by l.self) (map (λ platform. platform.items) l.platforms) l.db)
