use Rattle.std.proofs.Common.{◌≡◌, ◌++◌, ◌∷◌, take, map}
use Rattle.std.specs.Prelude.{filter}
use Rattle.std.specs.Str.{bytes_eq}
use Rattle.indexmap.specs.IndexSet.{insert_all}
use Rattle.tl_path.specs.Names.{is_name}
use Rattle.tl_depend.proofs.names.add_on_platforms.Given as goal

abbrev pub invariant-loop-platform : goal.invariant-loop-platform
invariant-loop-platform l =
    l.names.keys ≡ insert_all bytes_eq l.initial.names.keys (filter is_name (map (λ platform. l.front ++ 46 ∷ platform.items) (take l.platform-index l.platforms)))
