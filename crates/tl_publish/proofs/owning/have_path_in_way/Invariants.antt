use Rattle.std.proofs.Common.{◌≡◌}
use Rattle.std.specs.List.{list_any}
use Rattle.tl_entry.specs.Left.{paths_left}
use Rattle.tl_publish.specs.Owning.{claims_list}
use Rattle.tl_publish.proofs.owning.have_path_in_way.Given as goal

abbrev pub invariant-loop-path : goal.invariant-loop-path
invariant-loop-path l = list_any claims_list (paths_left l.path-iterator) ≡ list_any claims_list l.paths
