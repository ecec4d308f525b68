-- When a text is no number of a type.
use Rattle.std.specs.Prelude.{◌≡◌, ℕ, ◌<◌, List, true, false}
use Rattle.tl_model.specs.Decimal.{is_decimal, decimal_value}
use Rattle.tl_text.specs.declared.number.NumberError.{NumberError}
use Rattle.tl_text.specs.declared.number.NumberError.TheVariants.{NotNumber, TooLarge}

-- the cause of each refusal of a number, where this is the type's greatest
abbrev pub IsNumberFault : ℕ → List ℕ → NumberError → Type 0
IsNumberFault greatest text NotNumber = is_decimal text ≡ false
IsNumberFault greatest text (TooLarge limit) = (is_decimal text ≡ true) × (greatest < decimal_value text) × (limit ≡ greatest)
