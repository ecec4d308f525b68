-- Why a text lists no paths.
use Rattle.std.specs.Prelude.{◌≡◌, ◌<◌, ◌+◌, ℕ, List, length, Result, Err}
use Rattle.tl_kind.specs.declared.quantity.What.TheVariants.{Database}
use Rattle.tl_kind.specs.Quantities.{limit_of}
use Rattle.tl_lsr.specs.declared.error.LsrError.{LsrError}
use Rattle.tl_lsr.specs.declared.error.LsrError.TheVariants.{TooLarge, BadLsr, NoMemory}
use Rattle.tl_lsr.specs.Reading.{Listed, lsr_read}

-- the text passes its limit; or that line is its first one that can't stand there; want of memory has no cause in the text
abbrev pub IsLsrErrorOf : List ℕ → LsrError → Type 0
IsLsrErrorOf text (TooLarge what limit) = (what ≡ Database) × (limit ≡ limit_of Database) × (limit_of Database < length text)
IsLsrErrorOf text (BadLsr line) = lsr_read text ≡ Err line
IsLsrErrorOf text NoMemory = Unit {0}

-- lines list nothing: that is the first one that can't stand there; want of memory has no cause in them
abbrev pub IsTakenFault : Result Listed ℕ → LsrError → Type 0
IsTakenFault taken (TooLarge what limit) = ⊥
IsTakenFault taken (BadLsr line) = (before : ℕ) × (taken ≡ Err before) × (line ≡ before + 1)
IsTakenFault taken NoMemory = Unit {0}

-- an error whose cause isn't in the lines
abbrev pub IsNoLine : LsrError → Type 0
IsNoLine (TooLarge what limit) = Unit {0}
IsNoLine (BadLsr line) = ⊥
IsNoLine NoMemory = Unit {0}
