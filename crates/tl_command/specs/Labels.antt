-- The line that acknowledges a step of a command.
use Rattle.std.specs.Prelude.{ℕ, codes, List, ◌∷◌, ◌++◌}
use Rattle.tl_model.specs.Decimal.{decimal_text}

-- the line that acknowledges a step: its number, how many there are, and what it did
abbrev pub step_label : ℕ → ℕ → List ℕ → List ℕ
step_label step count what = codes "step " ++ decimal_text step ++ 47 ∷ decimal_text count ++ 32 ∷ what ++ codes " done\n"
