-- What the indexes say of the paths that come and of the files that stay.
use Rattle.std.specs.Prelude.{◌≡◌, ℕ, ◌||◌, ◌&&◌, not, Bool, true, false, List, filter, None}
use Rattle.std.specs.List.{list_any, flat_map}
use Rattle.tl_path.specs.Components.{is_below, is_touching}
use Rattle.tl_entry.specs.Rising.{has_key}
use Rattle.tl_entry.specs.FilePaths.{file_paths}
use Rattle.tl_entry.specs.declared.object.Object.{Object}
use Rattle.tl_tree.specs.Changes.{own}
use Rattle.tl_touch.specs.declared.repeated.Listed.{Listed}
use Rattle.tl_plan.specs.Removal.{is_among}
use Rattle.tl_coming.specs.Refused.{second_with}

-- whether a path comes more than once, or another one that comes touches it
abbrev pub is_beset : Listed → List ℕ → Bool
is_beset listed path = has_key (λ p. p) path listed.repeated
    || (list_any (λ other. is_below path other) listed.all || list_any (λ other. is_below other path) listed.all)

-- where nothing else that comes touches a path of an entry, nothing of the entry and those behind it does
abbrev pub IsSettled : Listed → Object → List Object → Type 0
IsSettled listed entry later =
    (path : List ℕ) → has_key (λ p. p) path (file_paths entry) ≡ true → is_beset listed path ≡ false → second_with path entry later ≡ None

-- whether a name of a tree is no file of an installed package, and touches a path that comes
abbrev pub is_in_way : List (List ℕ) → List (List ℕ) → List ℕ → Bool
is_in_way owned coming name = not (has_key (λ p. p) name owned) && list_any (is_touching name) coming

-- the files of the installed packages that have none of these names
abbrev pub owned_outside : List Object → List (List ℕ) → List (List ℕ)
owned_outside db names = flat_map own (filter (λ (entry : Object). not (is_among entry.name names)) db)
