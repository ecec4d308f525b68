-- What a refusal says of the words that were read.
use Rattle.std.specs.Prelude.{◌≡◌, Option, Some}
use Rattle.tl_words.specs.declared.faults.Fault.{Fault}
use Rattle.tl_words.specs.declared.faults.ReadError.{ReadError}
use Rattle.tl_words.specs.declared.faults.ReadError.TheVariants.{Bad, NoMemory as NoReadMemory}
use Rattle.tl_words.specs.declared.error.WordsError.{WordsError}
use Rattle.tl_words.specs.declared.error.WordsError.TheVariants.{BadWords, NoMemory}

-- the first fault that was looked for; want of memory has none
abbrev pub IsReadError : Option Fault → ReadError → Type 0
IsReadError found (Bad first) = found ≡ Some first
IsReadError found NoReadMemory = Unit {0}

-- the words' first fault; want of memory has none
abbrev pub IsErrorOf : Option Fault → WordsError → Type 0
IsErrorOf found (BadWords at kind) = found ≡ Some (record { at = at; kind = kind })
IsErrorOf found NoMemory = Unit {0}
