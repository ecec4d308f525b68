use Rattle.std.proofs.Common.{◌≡◌, drop, map}
use Rattle.std.specs.Cmp.Lexicographic.{pointwise}
use Rattle.std.specs.Str.{bytes_eq}
use Rattle.tl_restore.proofs.ReadLaws.{path_in}
use Rattle.tl_restore.proofs.reading.has_paths.Given as goal

abbrev pub invariant-loop-place : goal.invariant-loop-place
invariant-loop-place l = pointwise bytes_eq (map path_in l.files) l.paths ≡ pointwise bytes_eq (map path_in (drop l.place l.files)) (drop l.place l.paths)
