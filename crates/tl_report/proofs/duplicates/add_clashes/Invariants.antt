use Rattle.std.proofs.Common.{◌≡◌, ◌++◌, map, drop}
use Rattle.std.specs.Prelude.{take_while}
use Rattle.tl_report.specs.Claims.{claim_by}
use Rattle.tl_report.specs.Duplicates.{clashes_with}
use Rattle.tl_report.proofs.ClashLemmas.{has_path_of}
use Rattle.tl_report.proofs.duplicates.add_clashes.Given as goal

abbrev pub invariant-loop-other : goal.invariant-loop-other
invariant-loop-other l =
    l.lines ++ clashes_with (take_while (has_path_of (claim_by l.owner l.path)) (map (λ other. claim_by other.1.now other.0) (drop l.other-index l.behind))) (claim_by l.owner l.path)
    ≡ l.fn.lines ++ clashes_with (take_while (has_path_of (claim_by l.owner l.path)) (map (λ other. claim_by other.1.now other.0) l.behind)) (claim_by l.owner l.path)
