-- When a line has no quoted words.
use Rattle.std.specs.Prelude.{ℕ, ◌==◌, if◌then◌else◌, List, Option, Some, None}
use Rattle.tl_model.specs.Words.{IsLoneQuote}
use Rattle.tl_text.specs.declared.words.QuoteError.{QuoteError}
use Rattle.tl_text.specs.declared.words.QuoteError.TheVariants.{BadQuote, NoMemory}

-- the cause of each refusal of quoted words; want of memory has none
abbrev pub IsQuoteFault : List ℕ → QuoteError → Type 0
IsQuoteFault line (BadQuote at) = IsLoneQuote line at
IsQuoteFault line NoMemory = Unit {0}

-- where the open double quote stands behind one byte more, which stands at a place
abbrev pub quote_after : Option ℕ → ℕ → ℕ → Option ℕ
quote_after None b at = if b == 34 then Some at else None
quote_after (Some quote) b at = if b == 34 then None else Some quote
