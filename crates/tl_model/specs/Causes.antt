-- When a failure may be answered.
use Rattle.std.specs.Prelude.{ℕ, ◌+◌, ◌-◌, ◌^◌, ◌≤◌, min, max, Result, OnErr, IfErr}

-- a count has risen, or stands at its type's end
abbrev pub Rose : ℕ → ℕ → Type 0
Rose before now = min (before + 1) (2 ^ 64 - 1) ≤ now

-- a count after one more, which stands still at its type's end
abbrev pub one_more : ℕ → ℕ
one_more before = max before (min (before + 1) (2 ^ 64 - 1))

-- the count never falls, and it rose where the call failed
pub record HasCause {T E : Type 0} (before now : ℕ) (result : Result T E) : Type 0 where
  pub later : before ≤ now
  pub failed : OnErr result (Rose before now)

-- the count never falls, and it rose where the call failed by one of these faults; its other failures have their causes elsewhere
pub record HasCauseOf {T E : Type 0} (is_fault : E → Type 0) (before now : ℕ) (result : Result T E) : Type 0 where
  pub later : before ≤ now
  pub failed : IfErr result (λ fault. is_fault fault → Rose before now)
