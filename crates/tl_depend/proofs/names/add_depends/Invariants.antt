use Rattle.std.proofs.Common.{◌≡◌, take, map}
use Rattle.std.specs.List.{flat_map}
use Rattle.std.specs.Str.{bytes_eq}
use Rattle.indexmap.specs.IndexSet.{insert_all}
use Rattle.tl_depend.specs.Names.{named_by}
use Rattle.tl_depend.proofs.names.add_depends.Given as goal

abbrev pub invariant-loop-depend : goal.invariant-loop-depend
invariant-loop-depend l =
    l.names.keys ≡ insert_all bytes_eq l.initial.names.keys (flat_map (named_by (map (λ platform. platform.items) l.platforms)) (take l.depend-index l.depends))
