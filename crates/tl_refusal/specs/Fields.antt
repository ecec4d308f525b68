-- The fields of a refusal, as a list.
use Rattle.std.specs.Prelude.{ℕ, List, [], ◌∷◌}
use Rattle.tl_refusal.specs.declared.field.Fields.{Fields}
use Rattle.tl_refusal.specs.declared.field.Fields.TheVariants.{Zero, One, Two, Three, Four}

-- the list of some fields
abbrev pub fields_in : Fields → List (List ℕ × List ℕ)
fields_in Zero = []
fields_in (One a) = a ∷ []
fields_in (Two a b) = a ∷ b ∷ []
fields_in (Three a b c) = a ∷ b ∷ c ∷ []
fields_in (Four a b c d) = a ∷ b ∷ c ∷ d ∷ []
