use Rattle.std.proofs.Common.{◌≡◌, [], drop, map}
use Rattle.std.specs.Str.{bytes_eq}
use Rattle.indexmap.specs.IndexSet.{insert_all}
use Rattle.tl_coming.specs.Parts.{part_name}
use Rattle.tl_coming.proofs.planning.names_of.Given as goal

abbrev pub invariant-loop-part : goal.invariant-loop-part
invariant-loop-part l = insert_all bytes_eq l.names.keys (map part_name (drop l.part-index l.plan)) ≡ insert_all bytes_eq [] (map part_name l.plan)
