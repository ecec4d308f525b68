-- The names that depends stand for.
use Rattle.std.specs.Prelude.{ℕ, ◌-◌, if◌then◌else◌, nat_eq, codes, List, [], ◌∷◌, ◌++◌, length, take, map, filter, Option, Some, None}
use Rattle.std.specs.List.{ends_with, flat_map}
use Rattle.tl_path.specs.Names.{is_name}
use Rattle.tl_entry.specs.declared.object.Object.{Object}
use Rattle.tl_db.specs.Entries.{entry_of}

-- the texts for which a depend is written: `d.P` for each platform P where it is `d.ARCH`, else itself
abbrev pub spelled_out : List (List ℕ) → List ℕ → List (List ℕ)
spelled_out platforms depend =
    if ends_with nat_eq depend (codes ".ARCH") then map (λ platform. take (length depend - 5) depend ++ 46 ∷ platform) platforms else depend ∷ []

-- the names that a depend stands for on some platforms; a text that is no name stands for nothing
abbrev pub named_by : List (List ℕ) → List ℕ → List (List ℕ)
named_by platforms depend = filter is_name (spelled_out platforms depend)

-- the names that the depends of an entry stand for; none where there is no entry
abbrev pub named_of : List (List ℕ) → Option Object → List (List ℕ)
named_of platforms None = []
named_of platforms (Some entry) = flat_map (named_by platforms) entry.depends

-- the names that the depends of a name's entry stand for
abbrev pub named_in : List Object → List (List ℕ) → List ℕ → List (List ℕ)
named_in db platforms name = named_of platforms (entry_of name db)
