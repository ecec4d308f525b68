-- The values of a refusal's fields.
use Rattle.std.specs.Prelude.{ℕ, List, [], ◌∷◌, ◌++◌}
use Rattle.std.specs.List.{AllByRecursion}
use Rattle.hex.specs.Hex.{encode_lower}
use Rattle.tl_model.specs.Decimal.{decimal_text}
use Rattle.tl_model.specs.Lines.{IsLine}
use Rattle.tl_refusal.specs.declared.field.Value.{Value}
use Rattle.tl_refusal.specs.declared.field.Value.TheVariants.{Number, Word, Digest}

-- a value as it is said
abbrev pub value_text : Value → List ℕ
value_text (Number n) = decimal_text n
value_text (Word text) = text.now
value_text (Digest digest) = encode_lower digest.now

-- a field, its name and its value, as it is said
abbrev pub field_text : List ℕ × List ℕ → List ℕ
field_text field = 32 ∷ field.0 ++ 61 ∷ field.1

-- no value of these fields has a line end
abbrev pub AreOneLine : List (List ℕ × List ℕ) → Type 0
AreOneLine fields = AllByRecursion (λ (field : List ℕ × List ℕ). IsLine field.1) fields
