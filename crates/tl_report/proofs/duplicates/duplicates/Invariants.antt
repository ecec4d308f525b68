use Rattle.std.proofs.Common.{◌≡◌, ◌++◌, map, drop}
use Rattle.tl_report.specs.Claims.{claim_by}
use Rattle.tl_report.proofs.ClashLemmas.{runs}
use Rattle.tl_report.proofs.duplicates.duplicates.Given as goal

abbrev pub invariant-loop-at : goal.invariant-loop-at
invariant-loop-at l = l.lines ++ runs (map (λ file. claim_by file.1.now file.0) (drop l.at l.file-items)) ≡ runs (map (λ file. claim_by file.1.now file.0) l.file-items)
