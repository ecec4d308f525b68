-- Lists that have the same names.
use Rattle.std.specs.Prelude.{◌≡◌, ℕ, List}
use Rattle.tl_plan.specs.Removal.{is_among}

-- each name is in both lists or in none of them
abbrev pub HaveSame : List (List ℕ) → List (List ℕ) → Type 0
HaveSame some others = (name : List ℕ) → is_among name some ≡ is_among name others
