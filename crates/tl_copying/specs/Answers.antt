-- What the calls of a copy answer.
use Rattle.std.specs.Prelude.{◌≡◌, ℕ, List, Result, Err}
use Rattle.tl_copying.specs.declared.error.CopyError.{CopyError}
use Rattle.tl_copying.specs.declared.stage.Stage.{Stage}
use Rattle.tl_copying.specs.declared.stage.Stayed.{Stayed}
use Rattle.tl_copying.specs.declared.stage.Turn.{Turn}
use Rattle.tl_copying.specs.declared.error.CopyError.TheVariants.{ContainerFormat, NoMemory}

-- an error is the one that is wanted; want of memory says nothing
abbrev pub IsCopyError : {X : Type 0} → Result X CopyError → CopyError → Type 0
IsCopyError wanted NoMemory = Unit {0}
IsCopyError wanted error = wanted ≡ Err error

-- an error is that the containers have this format, or want of memory
abbrev pub IsFormatError : List ℕ → CopyError → Type 0
IsFormatError format NoMemory = Unit {0}
IsFormatError format error = error ≡ ContainerFormat format

-- a round stays where it is, for the error that is wanted or want of memory
abbrev pub IsStayed : Stage → Result Turn CopyError → Stayed → Type 0
IsStayed stage wanted stayed = (stayed.stage ≡ stage) × IsCopyError wanted stayed.error
