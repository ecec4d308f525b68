use Rattle.std.proofs.Common.{◌≡◌, drop}
use Rattle.std.specs.Prelude.{find, option_map}
use Rattle.std.specs.List.{list_any}
use Rattle.tl_path.specs.Components.{is_touching}
use Rattle.tl_coming.specs.declared.error.ComingError.TheVariants.{Occupied}
use Rattle.tl_coming.specs.Refused.{occupied_path}
use Rattle.tl_coming.proofs.occupied.refuse_occupied_of.Given as goal

abbrev pub invariant-loop-path : goal.invariant-loop-path
invariant-loop-path l = option_map Occupied (find (λ path. list_any (is_touching path) l.names) (drop l.path-index l.path-items)) ≡ occupied_path l.names l.entry
