-- What is said of a text that is no pattern.
use Rattle.std.specs.Prelude.{ℕ}
use Rattle.tl_pattern.specs.declared.error.PatternError.{PatternError}
use Rattle.tl_pattern.specs.declared.error.PatternError.TheVariants as causes
use Rattle.tl_auto.specs.declared.error.AutoError.{AutoError}
use Rattle.tl_auto.specs.declared.error.AutoError.TheVariants as errors

-- a pattern's fault, on its line
abbrev pub fault_of : PatternError → ℕ → AutoError
fault_of causes.BadPath line = errors.BadPath line
fault_of causes.Syntax line = errors.Syntax line
fault_of causes.Size line = errors.Size line
fault_of causes.NoMemory line = errors.NoMemory
