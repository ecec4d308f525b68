use Rattle.std.proofs.Common.{◌≡◌, take, map}
use Rattle.std.specs.List.{flat_map}
use Rattle.tl_entry.specs.FilePaths.{listed_paths}
use Rattle.tl_coming.proofs.clashes.paths_of.Given as goal

abbrev pub invariant-loop-entry : goal.invariant-loop-entry
invariant-loop-entry l = l.paths.items ≡ flat_map listed_paths (map (λ e. e.now) (take l.entry-index l.coming))
