use Rattle.std.proofs.Common.{◌≡◌, drop, map}
use Rattle.tl_entry.specs.FilePaths.{file_paths}
use Rattle.tl_coming.specs.Refused.{first_of, clash_at}
use Rattle.tl_coming.proofs.clashes.refuse_clashes_of.Given as goal

abbrev pub invariant-loop-path : goal.invariant-loop-path
invariant-loop-path l = first_of (clash_at l.entry (map (λ e. e.now) l.later)) (drop l.path-index l.path-items) ≡ first_of (clash_at l.entry (map (λ e. e.now) l.later)) (file_paths l.entry)
