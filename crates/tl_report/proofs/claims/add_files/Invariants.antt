use Rattle.std.proofs.Common.{◌≡◌, ◌++◌, map}
use Rattle.tl_report.specs.Claims.{claim_by}
use Rattle.tl_report.proofs.claims.add_files.Given as goal

abbrev pub invariant-loop-path : goal.invariant-loop-path
invariant-loop-path l = map (λ file. claim_by file.1.now file.0) l.files.items ≡ map (λ file. claim_by file.1.now file.0) l.fn.files.items ++ map (claim_by l.entry.name) l.yielded
