-- Why a text is no source.
use Rattle.std.specs.Prelude.{◌≡◌, ℕ, ◌≤◌, ◌<◌, List, length, Err}
use Rattle.tl_kind.specs.declared.quantity.What.TheVariants.{Source}
use Rattle.tl_kind.specs.Quantities.{limit_of}
use Rattle.tl_srctext.specs.Reading.{source_of}
use Rattle.tl_srctext.specs.declared.error.SourceError.{SourceError}
use Rattle.tl_srctext.specs.declared.error.SourceError.TheVariants.{BadSource, TooLarge, NoMemory}

-- the text passes its limit; or that line is its first bad one, and that is how it is bad; want of memory has no cause in the text
abbrev pub IsSourceError : List ℕ → List ℕ → SourceError → Type 0
IsSourceError name text (BadSource line kind) = (length text ≤ limit_of Source) × (source_of name text ≡ Err (line, kind))
IsSourceError name text (TooLarge what limit) = (what ≡ Source) × (limit ≡ limit_of Source) × (limit_of Source < length text)
IsSourceError name text NoMemory = Unit {0}
