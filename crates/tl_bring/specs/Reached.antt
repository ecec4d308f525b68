-- The names that are reached, as a function: what is reached by as many depends, one after another, as there are names for which depends stand.
use Rattle.std.specs.Prelude.{ℕ, zero, suc, List, ◌++◌, Some}
use Rattle.std.specs.List.{flat_map}
use Rattle.tl_entry.specs.declared.object.Object.{Object}
use Rattle.tl_depend.specs.Names.{named_of}

-- some names, and those that are reached from them by so many depends, where each name names others
abbrev pub reached_by : ℕ → (List ℕ → List (List ℕ)) → List (List ℕ) → List (List ℕ)
reached_by zero named names = names
reached_by (suc n) named names = reached_by n named (names ++ flat_map named names)

-- the names for which the depends of some entries stand
abbrev pub all_named : List (List ℕ) → List Object → List (List ℕ)
all_named platforms entries = flat_map (λ (entry : Object). named_of platforms (Some entry)) entries
