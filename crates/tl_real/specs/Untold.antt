-- What a shelf and a source that tell nothing but their counts are seen as.
use Rattle.std.specs.Prelude.{ℕ, [], refl}
use Rattle.std.specs.Coded.{Coded, code_by, coded×, coded_ℕ}
use Rattle.tl_model.specs.Devices.{ShelfSeen, SourceSeen}

-- the counts of a shelf: its faults, and its answers that a name is absent
pub record Failing : Type 0 where
  pub faults : ℕ
  pub absences : ℕ

-- how they are coded
abbrev pub failing_code : Coded Failing
failing_code = code_by (ℕ × ℕ) (coded× coded_ℕ coded_ℕ) (λ f. (f.faults, f.absences)) (λ p. record { faults = p.0; absences = p.1 }) (λ _. refl)

-- a shelf that tells nothing but its counts
abbrev pub untold_shelf : Failing → ShelfSeen
untold_shelf counts = record { repositories = []; faults = counts.faults; absences = counts.absences }

-- a source that tells nothing but its count of faults
abbrev pub untold_source : ℕ → SourceSeen
untold_source faults = record { left = []; faults = faults }
