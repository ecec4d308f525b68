use Rattle.std.proofs.Common.{◌≡◌, ◌||◌, Bool, map}
use Rattle.std.specs.List.{list_any}
use Rattle.tl_report.specs.Claims.{Claim, claim_by, claims}
use Rattle.tl_report.proofs.claims.files_of.Given as goal

abbrev pub invariant-loop-entry : goal.invariant-loop-entry
invariant-loop-entry l = (test : Claim → Bool) → (list_any test (map (λ file. claim_by file.1.now file.0) l.files.items) || list_any test (claims l.entry-iterator.rest.now)) ≡ list_any test (claims l.db)
