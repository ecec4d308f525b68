-- Which packages come where some are asked to.
use Rattle.std.specs.Prelude.{◌≡◌, ℕ, ◌&&◌, ◌||◌, not, Bool, true, if◌then◌else◌, List, [], ◌++◌, filter, length, Option, Some, None, is_some}
use Rattle.std.specs.List.{flat_map}
use Rattle.tl_path.specs.declared.kinds.Category.{Category}
use Rattle.tl_path.specs.declared.kinds.Category.TheVariants.{Package, Collection, Scheme}
use Rattle.tl_entry.specs.FilePaths.{rising_of}
use Rattle.tl_entry.specs.declared.object.Object.{Object}
use Rattle.tl_db.specs.Entries.{entry_of}
use Rattle.tl_db.specs.declared.repo.Repo.{Repo}
use Rattle.tl_pin.specs.declared.line.PinLine.{PinLine}
use Rattle.tl_pin.specs.Candidates.{candidate_of, view_entry}
use Rattle.tl_depend.specs.Names.{named_of}
use Rattle.tl_depend.specs.Needed.{tree_platforms}
use Rattle.tl_depend.specs.Order.{entry_rank, same_rank, category_rank}
use Rattle.tl_bring.specs.Reached.{reached_by, all_named}
use Rattle.tl_plan.specs.Removal.{is_protected, is_among, binary_parts}
use Rattle.tl_bring.specs.declared.coming.InstallAsk.{InstallAsk}

-- the names among some that have the rank of a category, by what gives the entry of a name
abbrev pub ranked : (List ℕ → Option Object) → Category → List (List ℕ) → List (List ℕ)
ranked entry category names = filter (λ name. same_rank (entry_rank (entry name)) (category_rank category)) names

-- names that stand in the order of their bytes, in the order in which they are installed, by what gives the entry of a name
abbrev pub order_by : (List ℕ → Option Object) → List (List ℕ) → List (List ℕ)
order_by entry names = ranked entry Package names ++ (ranked entry Collection names ++ ranked entry Scheme names)

-- all entries that repositories and a tree have
abbrev pub known_entries : List Repo → List Object → List Object
known_entries repos db = flat_map (λ (repo : Repo). repo.db) repos ++ db

-- whether a package may come: a repository gives it, it isn't installed, and the tree doesn't keep its name for itself
abbrev pub may_come : List PinLine → List Repo → List Object → List ℕ → Bool
may_come pins repos db name = not (is_protected name) && (is_some (candidate_of pins repos name) && not (is_some (entry_of name db)))

-- the names whose packages may come again
abbrev pub names_again : List (List ℕ) → InstallAsk → List (List ℕ)
names_again names ask = if ask.reinstall then names else []

-- whether a package comes, where those of some names may come again if they are installed
abbrev pub comes : List PinLine → List Repo → List Object → List (List ℕ) → List ℕ → Bool
comes pins repos db again name = may_come pins repos db name || (is_among name again && is_some (entry_of name db))

-- the binary parts of an entry; none where there is no entry
abbrev pub parts_or_none : List (List ℕ) → Option Object → List (List ℕ)
parts_or_none platforms None = []
parts_or_none platforms (Some entry) = binary_parts platforms entry

-- the binary parts of some names, by what gives the entry of a name
abbrev pub parts_in : (List ℕ → Option Object) → List (List ℕ) → List (List ℕ) → List (List ℕ)
parts_in entry platforms names = flat_map (λ name. parts_or_none platforms (entry name)) names

-- the names that are looked at, by what gives the entry of a name: what the asked ones reach by so many depends, one after another;
-- without depends they and their binary parts; without parts they alone
abbrev pub looked_at : List (List ℕ) → InstallAsk → (List ℕ → Option Object) → List (List ℕ) → ℕ → List (List ℕ)
looked_at names ask entry platforms count =
    if not ask.parts then names
    else (if not ask.depends then names ++ parts_in entry platforms names
    else reached_by count (λ name. named_of platforms (entry name)) names)

-- so many names there are for which depends stand on some platforms of the entries that are found by their names in a view
pub record IsEnough (view : List Object) (platforms : List (List ℕ)) (count : ℕ) : Type 0 where
  pub all : List (List ℕ)
  pub is : count ≡ length all
  pub within : (name other : List ℕ) → is_among other (named_of platforms (entry_of name view)) ≡ true → is_among other all ≡ true

-- the names of the packages that come, in the order in which they are installed
unfoldable pub install_names : List PinLine → List Repo → List Object → List (List ℕ) → InstallAsk → List (List ℕ)
install_names pins repos db names ask =
    let platforms = tree_platforms db in
    let looked = looked_at names ask (view_entry pins repos db) platforms (length (all_named platforms (known_entries repos db))) in
    order_by (view_entry pins repos db) (rising_of (filter (comes pins repos db (names_again names ask)) looked))
