-- Verdicts as the code keeps them.
use Rattle.std.specs.Prelude.{ℕ, List, [], ◌∷◌, Vec, Option, None, Some, Result, Ok, Err}
use Rattle.std.specs.declared.alloc.Global.{Global}
use Rattle.std.specs.FinMap as finite
use Rattle.tl_model.specs.Devices as seen
use Rattle.tl_model.specs.Devices.{Verdicts}
use Rattle.tl_regexp.specs.declared.verdicts.Verdict.{Verdict}
use Rattle.tl_regexp.specs.declared.verdicts.Verdict.TheVariants.{Read, Syntax, Size}
use Rattle.tl_regexp.specs.declared.regexp.RegexpError.{RegexpError}
use Rattle.tl_regexp.specs.declared.regexp.RegexpError.TheVariants as errors

-- a verdict as contracts see it
abbrev pub seen_verdict : Verdict → seen.Verdict
seen_verdict Read = seen.Read
seen_verdict Syntax = seen.Syntax
seen_verdict Size = seen.Size

-- texts with their verdicts, the first where a text has two
abbrev pub verdicts_of : List (Vec ℕ Global × Verdict) → Verdicts
verdicts_of [] = finite.empty
verdicts_of (e ∷ es) = finite.insert (verdicts_of es) e.0.items (seen_verdict e.1)

-- verdicts, none before the first
abbrev pub verdicts_or_none : Option Verdicts → Verdicts
verdicts_or_none None = finite.empty
verdicts_or_none (Some verdicts) = verdicts

-- the verdict that an answer gives; want of memory gives none
abbrev pub verdict_of : {R : Type 0} → Result R RegexpError → Option seen.Verdict
verdict_of (Ok regexp) = Some seen.Read
verdict_of (Err errors.Syntax) = Some seen.Syntax
verdict_of (Err errors.Size) = Some seen.Size
verdict_of (Err errors.NoMemory) = None

-- verdicts with one more on a text, where there is one
abbrev pub told_with : List ℕ → Verdicts → Option seen.Verdict → Verdicts
told_with text verdicts None = verdicts
told_with text verdicts (Some verdict) = finite.insert verdicts text verdict
