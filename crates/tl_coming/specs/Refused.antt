-- When a plan by which packages come is refused for what these have: each refusal at the first package in the order of the plan, and there
-- at its first execute or its least path.
use Rattle.std.specs.Prelude.{◌≡◌, ℕ, ◌+◌, ◌==◌, ◌&&◌, not, nat_le, nat_lt, Bool, if◌then◌else◌, List, [], ◌∷◌, filter, length, Option, Some, None, Result, Ok, Err, find, option_map}
use Rattle.std.specs.List.{list_any, count_by, flat_map}
use Rattle.std.specs.FinMap.{keys}
use Rattle.tl_model.specs.Volume.{Volume}
use Rattle.tl_kind.specs.Quantities.{limit_of}
use Rattle.tl_kind.specs.declared.quantity.What.TheVariants.{Files}
use Rattle.tl_path.specs.Components.{is_touching}
use Rattle.tl_path.specs.Reserved.{is_reserved}
use Rattle.tl_entry.specs.Rising.{has_key}
use Rattle.tl_entry.specs.FilePaths.{listed_paths, file_paths}
use Rattle.tl_entry.specs.declared.object.Object.{Object}
use Rattle.tl_tree.specs.Changes.{own}
use Rattle.tl_tree.specs.Owners.{name_of}
use Rattle.tl_execute.specs.Executes.{read_execute}
use Rattle.tl_execute.specs.declared.execute.Execute.{Execute}
use Rattle.tl_execute.specs.declared.execute.ExecuteKind.{ExecuteKind}
use Rattle.std.specs.Option.{option_or}
use Rattle.tl_plan.specs.Removal.{is_among}
use Rattle.tl_coming.specs.declared.error.ComingError.{ComingError}
use Rattle.tl_coming.specs.declared.error.ComingError.TheVariants.{BadExecute, Reserved, Clash, Owned, TooLarge, Occupied, HostFault, NoMemory}

-- the first fault that something has
abbrev pub first_of : {X : Type 0} → (X → Option ComingError) → List X → Option ComingError
first_of fault [] = None
first_of fault (x ∷ xs) = option_or (fault x) (first_of fault xs)

-- the fault of an execute that doesn't read, where so many stand before it
abbrev pub execute_fault : List ℕ → ℕ → Result Execute ExecuteKind → Option ComingError
execute_fault name before (Ok execute) = None
execute_fault name before (Err kind) = Some (BadExecute name before kind)

-- the first execute that doesn't read, where so many stand before these
abbrev pub execute_fault_from : List ℕ → ℕ → List (List ℕ) → Option ComingError
execute_fault_from name before [] = None
execute_fault_from name before (text ∷ texts) = option_or (execute_fault name before (read_execute text)) (execute_fault_from name (before + 1) texts)

-- the first execute of an entry that doesn't read
abbrev pub bad_execute : Object → Option ComingError
bad_execute entry = execute_fault_from entry.name 0 entry.executes

-- the least path of an entry that is reserved
abbrev pub reserved_path : Object → Option ComingError
reserved_path entry = option_map Reserved (find is_reserved (file_paths entry))

-- the first of an entry and those behind it that has another path, or the same in another section, that touches a path of the entry
unfoldable pub second_with : List ℕ → Object → List Object → Option (List ℕ)
second_with path entry later =
    if nat_le 2 (count_by (is_touching path) (listed_paths entry)) then Some entry.name
    else option_map name_of (find (λ (other : Object). list_any (is_touching path) (listed_paths other)) later)

-- the fault of a path of an entry that another one touches
abbrev pub clash_at : Object → List Object → List ℕ → Option ComingError
clash_at entry later path = option_map (Clash path entry.name) (second_with path entry later)

-- the first entry with a path that another one touches, of its own or of an entry behind it
abbrev pub clash : List Object → Option ComingError
clash [] = None
clash (entry ∷ later) = option_or (first_of (clash_at entry later) (file_paths entry)) (clash later)

-- whether an entry is of none of these names, and has a file that touches a path
abbrev pub owns_outside : List (List ℕ) → List ℕ → Object → Bool
owns_outside names path entry = not (is_among entry.name names) && list_any (is_touching path) (own entry)

-- the fault of a path that touches a file of an installed package that is none of these
abbrev pub owned_at : List Object → List (List ℕ) → List ℕ → Option ComingError
owned_at db names path = option_map (λ (entry : Object). Owned path entry.name) (find (owns_outside names path) db)

-- the least path of an entry that touches a file of an installed package that is none of these
abbrev pub owned_path : List Object → List (List ℕ) → Object → Option ComingError
owned_path db names entry = first_of (owned_at db names) (file_paths entry)

-- the names of a tree that are no file of an installed package
abbrev pub loose_names : List Object → Volume → List (List ℕ)
loose_names db tree = filter (λ name. not (has_key (λ (p : List ℕ). p) name (flat_map own db))) (keys tree)

-- the least path of an entry that touches one of some names
abbrev pub occupied_path : List (List ℕ) → Object → Option ComingError
occupied_path names entry = option_map Occupied (find (λ path. list_any (is_touching path) names) (file_paths entry))

-- where a tree has more names than the limit
abbrev pub files_fault : Volume → Option ComingError
files_fault tree = if nat_lt (limit_of Files) (length (keys tree)) then Some (TooLarge Files (limit_of Files)) else None

-- the first refusal for what stands in a tree into which packages come
abbrev pub standing_fault : List Object → Volume → List Object → Option ComingError
standing_fault db tree coming = option_or (files_fault tree) (first_of (occupied_path (loose_names db tree)) coming)

-- the first refusal for what stands in a tree; none where nothing comes
abbrev pub tree_fault : List Object → Volume → List Object → Option ComingError
tree_fault db tree coming = if length coming == 0 then None else standing_fault db tree coming

-- the first refusal for what the packages that come have, where a plan speaks of packages of these names
abbrev pub entries_fault : List Object → List (List ℕ) → List Object → Option ComingError
entries_fault db names coming =
    option_or (first_of bad_execute coming) (option_or (first_of reserved_path coming) (option_or (clash coming) (first_of (owned_path db names) coming)))

-- the first refusal of a plan by which packages come
abbrev pub coming_fault : List Object → List (List ℕ) → Volume → List Object → Option ComingError
coming_fault db names tree coming = option_or (entries_fault db names coming) (tree_fault db tree coming)

-- an error that was answered is the fault that is wanted, and no fault of the host; want of memory says nothing
abbrev pub IsWantedFault : Option ComingError → ComingError → Type 0
IsWantedFault wanted NoMemory = Unit {0}
IsWantedFault wanted HostFault = ⊥
IsWantedFault wanted fault = wanted ≡ Some fault
