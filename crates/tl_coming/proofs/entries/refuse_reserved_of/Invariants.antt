use Rattle.std.proofs.Common.{◌≡◌, drop}
use Rattle.std.specs.Prelude.{find, option_map}
use Rattle.tl_path.specs.Reserved.{is_reserved}
use Rattle.tl_coming.specs.declared.error.ComingError.TheVariants.{Reserved}
use Rattle.tl_coming.specs.Refused.{reserved_path}
use Rattle.tl_coming.proofs.entries.refuse_reserved_of.Given as goal

abbrev pub invariant-loop-path : goal.invariant-loop-path
invariant-loop-path l = option_map Reserved (find is_reserved (drop l.path-index l.path-items)) ≡ reserved_path l.entry
