-- Which packages leave where some are asked to, in which steps, and when that is refused.
use Rattle.std.specs.Prelude.{◌≡◌, ℕ, ◌&&◌, ◌||◌, not, nat_eq, Bool, true, false, if◌then◌else◌, codes, List, [], ◌∷◌, ◌++◌, map, filter, find, reverse, Option, Some, None, is_some, option_map, option_and_then, Result, Ok, Err}
use Rattle.std.specs.List.{flat_map, list_any, starts_with}
use Rattle.std.specs.Str.{bytes_eq}
use Rattle.tl_path.specs.Names.{is_name}
use Rattle.tl_path.specs.declared.kinds.Category.{Category}
use Rattle.tl_path.specs.declared.kinds.Category.TheVariants.{Package, TLCore, ConTeXt, Collection, Scheme}
use Rattle.tl_entry.specs.declared.object.Object.{Object}
use Rattle.tl_entry.specs.FilePaths.{rising_of}
use Rattle.tl_db.specs.Entries.{entry_of}
use Rattle.tl_depend.specs.Needed.{tree_platforms, is_meta, stands_for, needed_by}
use Rattle.tl_plan.specs.Plans.{install_order, plan_steps}
use Rattle.tl_plan.specs.declared.planned.Planned.{Planned}
use Rattle.tl_plan.specs.declared.planned.Planned.TheVariants.{Remove}
use Rattle.tl_plan.specs.declared.error.PlanError.{PlanError}
use Rattle.tl_plan.specs.declared.error.PlanError.TheVariants.{Protected, NotInstalled, Needed, NoMemory}

-- whether a name is one of those that the tree keeps for itself
abbrev pub is_protected : List ℕ → Bool
is_protected name = starts_with nat_eq name (codes "00texlive")

-- whether a name is among some
abbrev pub is_among : List ℕ → List (List ℕ) → Bool
is_among name names = list_any (bytes_eq name) names

-- whether a category is that of a collection
abbrev pub is_collection : Category → Bool
is_collection Package = false
is_collection TLCore = false
is_collection ConTeXt = false
is_collection Collection = true
is_collection Scheme = false

-- whether an entry is a collection that was asked for and has a depend that stands for a name
abbrev pub gathers : List (List ℕ) → List (List ℕ) → List ℕ → Object → Bool
gathers platforms asked name entry =
    (is_collection entry.category && is_among entry.name asked) && list_any (stands_for platforms name) entry.depends

-- whether an asked collection has a depend that stands for a name
abbrev pub is_gathered : List Object → List (List ℕ) → List ℕ → Bool
is_gathered db asked name = list_any (gathers (tree_platforms db) asked name) db

-- whether a collection or a scheme that isn't asked for has a depend that stands for a name
abbrev pub is_needed : List Object → List (List ℕ) → List ℕ → Bool
is_needed db asked name = is_some (needed_by db name asked)

-- whether an installed package leaves for itself: it is asked for; or an asked collection names it, it is neither collection nor
-- scheme, and none of these that isn't asked for names it
abbrev pub leaves_itself : List Object → List (List ℕ) → Object → Bool
leaves_itself db asked entry =
    is_among entry.name asked || (not (is_meta entry.category) && (is_gathered db asked entry.name && not (is_needed db asked entry.name)))

-- the binary parts of an entry: NAME.P for each platform P where it has the depend NAME.ARCH
abbrev pub binary_parts : List (List ℕ) → Object → List (List ℕ)
binary_parts platforms entry =
    if is_among (entry.name ++ codes ".ARCH") entry.depends then filter is_name (map (λ platform. entry.name ++ 46 ∷ platform) platforms) else []

-- the binary parts of the entries that leave for themselves
abbrev pub parts_by : (Object → Bool) → List (List ℕ) → List Object → List (List ℕ)
parts_by itself platforms db = flat_map (binary_parts platforms) (filter itself db)

-- whether an installed package leaves: for itself or as one of these parts; none does whose name the tree keeps for itself
abbrev pub leaves_with : (Object → Bool) → List (List ℕ) → Object → Bool
leaves_with itself parts entry = not (is_protected entry.name) && (itself entry || is_among entry.name parts)

-- the names of the entries that leave, in their order
abbrev pub names_by : (Object → Bool) → List (List ℕ) → List Object → List (List ℕ)
names_by itself parts db = map (λ (entry : Object). entry.name) (filter (leaves_with itself parts) db)

-- the names that leave
abbrev pub leaving_names : List Object → List (List ℕ) → List (List ℕ)
leaving_names db asked = names_by (leaves_itself db asked) (parts_by (leaves_itself db asked) (tree_platforms db) db) db

-- the names that leave, the last one that would be installed first
abbrev pub removal_order : List Object → List (List ℕ) → List (List ℕ)
removal_order db asked = reverse (install_order db (rising_of (leaving_names db asked)))

-- the first of two faults
abbrev pub first_fault : Option PlanError → Option PlanError → Option PlanError
first_fault None other = other
first_fault (Some fault) other = Some fault

-- the first asked name that the tree keeps for itself
abbrev pub protected_fault : List (List ℕ) → Option PlanError
protected_fault asked = option_map Protected (find is_protected asked)

-- the first asked name that isn't installed
abbrev pub absent_fault : List Object → List (List ℕ) → Option PlanError
absent_fault db asked = option_map NotInstalled (find (λ name. not (is_some (entry_of name db))) asked)

-- the fault of a name that something needs
abbrev pub need_of : List Object → List (List ℕ) → List ℕ → Option PlanError
need_of db asked name = option_map (Needed name) (needed_by db name asked)

-- the first of some names that a collection or a scheme needs which isn't asked for, with the least such one
abbrev pub needed_fault : List Object → List (List ℕ) → List (List ℕ) → Option PlanError
needed_fault db asked [] = None
needed_fault db asked (name ∷ names) = first_fault (need_of db asked name) (needed_fault db asked names)

-- the first refusal of a removal
abbrev pub removal_fault : List Object → List (List ℕ) → Bool → Option PlanError
removal_fault db asked force =
    first_fault (protected_fault asked) (first_fault (absent_fault db asked) (if force then None else needed_fault db asked asked))

-- some steps, unless there is a fault
abbrev pub steps_unless : Option PlanError → List (List Planned) → Result (List (List Planned)) PlanError
steps_unless None steps = Ok steps
steps_unless (Some fault) steps = Err fault

-- the steps in which packages leave where these are asked to, with force or without it; or the first refusal
abbrev pub removal_of : List Object → List (List ℕ) → Bool → Result (List (List Planned)) PlanError
removal_of db asked force = steps_unless (removal_fault db asked force) (plan_steps db (map Remove (removal_order db asked)))

-- an error that was answered is the fault that is wanted; want of memory says nothing
abbrev pub IsNoPlan : Option PlanError → PlanError → Type 0
IsNoPlan wanted NoMemory = Unit {0}
IsNoPlan wanted fault = wanted ≡ Some fault
