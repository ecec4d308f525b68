-- Which installed packages are updated, and which binary parts come with them.
use Rattle.std.specs.Prelude.{ℕ, ◌&&◌, ◌||◌, not, nat_lt, Bool, false, List, ◌++◌, map, filter, Option, Some, None, option_map}
use Rattle.tl_entry.specs.declared.object.Object.{Object}
use Rattle.tl_db.specs.declared.repo.Repo.{Repo}
use Rattle.tl_pin.specs.declared.line.PinLine.{PinLine}
use Rattle.tl_pin.specs.Candidates.{candidate_of, view_entry}
use Rattle.tl_depend.specs.Needed.{tree_platforms}
use Rattle.tl_plan.specs.Removal.{is_among, is_protected}
use Rattle.tl_bring.specs.Coming.{may_come, parts_in}
use Rattle.tl_renew.specs.declared.ask.UpdateAsk.{UpdateAsk}

-- whether the revision at a place is greater than this one
abbrev pub is_newer : ℕ → Option (ℕ × ℕ) → Bool
is_newer revision None = false
is_newer revision (Some found) = nat_lt revision found.1

-- whether an installed package has a candidate of a greater revision; none has whose name the tree keeps for itself
abbrev pub has_update : List PinLine → List Repo → Object → Bool
has_update pins repos entry =
    not (is_protected entry.name) && is_newer entry.revision (option_map (λ (c : ℕ × Object). (c.0, c.1.revision)) (candidate_of pins repos entry.name))

-- whether an installed package is updated: it has a newer candidate, and all are asked for or it is one of these
abbrev pub is_updated : List PinLine → List Repo → Bool → List (List ℕ) → Object → Bool
is_updated pins repos all asked entry = has_update pins repos entry && (all || is_among entry.name asked)

-- the names of the installed packages that are updated, where all are asked for or these
abbrev pub updated_among : List PinLine → List Repo → Bool → List (List ℕ) → List Object → List (List ℕ)
updated_among pins repos all asked db = map (λ (entry : Object). entry.name) (filter (is_updated pins repos all asked) db)

-- some names and their binary parts, by what gives the entry of a name
abbrev pub names_with_parts : (List ℕ → Option Object) → List (List ℕ) → List (List ℕ) → List (List ℕ)
names_with_parts entry platforms names = names ++ parts_in entry platforms names

-- the names of the installed packages that are updated: of all, or of those that are asked for and of their binary parts
abbrev pub updated_names : List PinLine → List Repo → List Object → List (List ℕ) → UpdateAsk → List (List ℕ)
updated_names pins repos db names ask =
    updated_among pins repos ask.all (names_with_parts (view_entry pins repos db) (tree_platforms db) names) db

-- some updated names, and those of their binary parts that may come
abbrev pub with_beside : List PinLine → List Repo → List Object → List (List ℕ) → List (List ℕ)
with_beside pins repos db updated =
    updated ++ filter (may_come pins repos db) (parts_in (view_entry pins repos db) (tree_platforms db) updated)

-- whether a name is among updated ones or may come
abbrev pub comes_beside : List PinLine → List Repo → List Object → List (List ℕ) → List ℕ → Bool
comes_beside pins repos db updated name = is_among name updated || may_come pins repos db name

-- the names of the packages that are updated, and of the binary parts that come with them
abbrev pub renewed_names : List PinLine → List Repo → List Object → List (List ℕ) → UpdateAsk → List (List ℕ)
renewed_names pins repos db names ask = with_beside pins repos db (updated_names pins repos db names ask)
